mod OutputLaws

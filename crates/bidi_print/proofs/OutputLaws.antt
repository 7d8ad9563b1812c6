-- What the program's loop has written: a line's output behind that of the lines before it. Assumes nothing.
use Rattle.std.proofs.Common.{◌≡◌, ℕ, ◌+◌, ◌-◌, ◌<◌, ◌≤◌, List, ◌++◌, length, take, drop, Option, None, Some, IfSome, OnOk, Ok, Err, sym, ap, subst, ◌∙◌}
use Rattle.std.specs.declared.result.Result.{Result}
use Rattle.std.proofs.lemmas.List.{append-nil, append_assoc}
use Rattle.std.proofs.Math.Seq.{take-append_seam}
use Rattle.std.proofs.KnownBytes.{Appends-trans}
use Rattle.std.specs.Io.KnownBytes.{Appends}
use Rattle.words.specs.Words.{line_feed, part_end, lines_of}
use Rattle.printing.specs.Printing.{line_text, text_of_all, most_input, output_of, most_output, printed, Prints}
use Rattle.printing.proofs.OutputTheorems.{output_next, output_ended}

-- what stands at the front of the buffer is the line's output
pub front_is : (line before after : List ℕ) (count : ℕ) → length before ≡ most_output → Prints line before count after → take count after ≡ line_text line
unfolding printed
front_is line before after count room prints =
    let long : printed line (length before) ≡ line_text line = ap (printed line) room in
    ap (λ (k : ℕ). take k after) prints.counted
    ∙ ap (take (length (printed line (length before)))) prints.buffer
    ∙ take-append_seam (printed line (length before)) _
    ∙ long

-- the output of the lines before a place, and then that of the lines from there on
pub record Printed (first now : Option (List ℕ)) (input : List ℕ) (from : ℕ) : Type 0 where
  pub text : List ℕ
  pub written : Appends first now text
  pub whole : text_of_all (lines_of input) ≡ text ++ text_of_all (lines_of (drop from input))

pub printed_line : (first now next : Option (List ℕ)) (input line : List ℕ) (from end : ℕ) → Printed first now input from → from < length input → end ≡ part_end line_feed input from → Appends now next line → line ≡ line_text (take (end - from) (drop from input)) → Printed first next input (end + 1)
printed_line first now next input line from end so_far within e more is =
    record {
      text = so_far.text ++ line;
      written = Appends-trans first now next so_far.text line so_far.written more;
      whole = so_far.whole ∙ ap (λ (t : List ℕ). so_far.text ++ t) (output_next input from end within e) ∙ sym (append_assoc so_far.text _ _) ∙ ap (λ (t : List ℕ). (so_far.text ++ t) ++ text_of_all (lines_of (drop (end + 1) input))) (sym is);
    }

pub printed_all : (first now : Option (List ℕ)) (input : List ℕ) (from : ℕ) → Printed first now input from → length input ≤ from → Appends first now (text_of_all (lines_of input))
printed_all first now input from so_far past =
    let all : text_of_all (lines_of input) ≡ so_far.text = so_far.whole ∙ ap (λ (t : List ℕ). so_far.text ++ t) (output_ended input from past) ∙ append-nil so_far.text in
    rw all so_far.written

-- the lines of the input's start are those of the whole output
pub start_printed : {V E : Type 0} (result : Result V E) (input : Option (List ℕ)) (before now : Option (List ℕ)) (start : List ℕ) → IfSome input (λ bytes. start ≡ take most_input bytes) → OnOk result (Appends before now (text_of_all (lines_of start))) → OnOk result (IfSome input (λ bytes. Appends before now (output_of bytes)))
unfolding output_of
start_printed (Ok v) None before now start is written = tt
start_printed (Ok v) (Some bytes) before now start is written = subst (λ (t : List ℕ). Appends before now (text_of_all (lines_of t))) is written
start_printed (Err e) input before now start is written = tt

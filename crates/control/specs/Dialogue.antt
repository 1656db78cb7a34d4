-- What is typed and what is written: observations and answers as lines of text (REFERENCE.md, Programs).
-- Assumes nothing.
use Rattle.lines.specs.declared.refusal.Refusal.{Refusal}
use Rattle.std.specs.Prelude.{ℕ, cond, List, [], ◌∷◌, Result, Ok, Err}
use Rattle.basics.specs.Bytes.{bytes_of, same_bytes}
use Rattle.basics.specs.Numbers.{number_below}
use Rattle.basics.specs.Text.{decimal, line}
use Rattle.stepping.specs.declared.position.Answer.{Answer}
use Rattle.stepping.specs.declared.position.Answer.TheVariants.{Choice, Stop, Ready}
use Rattle.play.specs.Limits.{side_limit}
use Rattle.printer.specs.Text.{refusal_text}

-- the longest word of a line with one number
abbrev pub word_room : ℕ
word_room = 5

-- the line of an answer; the last field of one that is no refusal is how many steps are left at most
abbrev pub answer_text : Result Answer Refusal → ℕ → List ℕ
answer_text (Ok (Choice c)) left = line (bytes_of "choice") (decimal c ∷ decimal left ∷ [])
answer_text (Ok Stop) left = line (bytes_of "stop") (decimal left ∷ [])
answer_text (Ok Ready) left = line (bytes_of "ready") (decimal left ∷ [])
answer_text (Err r) left = refusal_text r

-- the observation that a line holds, without its end; one that is not written as the printer writes it counts as 16, which is no observation
-- of any table
unfoldable pub observation_in : List ℕ → ℕ
observation_in l = let n = number_below side_limit l in cond (same_bytes l (decimal n)) n side_limit

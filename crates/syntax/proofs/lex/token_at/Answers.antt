-- `syntax::lex::token_at` meets its contract.
-- Assumes nothing.
use native.Mathlib.Omega.{arith}
use mathlib.Core.Path.{sym, ◌∙◌}
use Rattle.syntax.proofs.LexLaws.{tok_end, tok_word, tok_arrow, tok_dash, tok_none, tok_sign}
use Rattle.syntax.proofs.lex.token_at.Goals as goal
use Rattle.syntax.proofs.lex.token_at.Goals.{else-i-text-via-then-i-text+else-text-i-eq62, else-i-text-via-else-i-text}

pub returns-then-text-i : goal.returns-then-text-i
returns-then-text-i c =
    tok_end _ _ _ c.past-i.ensures c.if-text-i.true

pub returns-then-is_lower : goal.returns-then-is_lower
returns-then-is_lower c =
    tok_word _ _ _ c.past-i.ensures (omega arith) _ _ (sym c.is_lower.ensures ∙ c.if-is_lower.true) c.past-j.ensures
    c.word_kind-k.ensures

pub returns-then-text-i-eq62 : goal.returns-then-text-i-eq62
returns-then-text-i-eq62 c =
    tok_arrow _ _ _ c.past-i.ensures (omega arith) (sym c.is_lower.ensures ∙ c.if-is_lower.false) c.if-b-eq45.true
    c.if-i-text.true c.if-text-i-eq62.true

pub returns-then-b-eq45 : goal.returns-then-b-eq45
returns-then-b-eq45 c =
    tok_dash _ _ _ c.past-i.ensures (omega arith) (sym c.is_lower.ensures ∙ c.if-is_lower.false) c.if-b-eq45.true
    (elim c.else-i-text.branch [ else-i-text-via-then-i-text+else-text-i-eq62 w ↦ λ _. w.if-text-i-eq62.false | else-i-text-via-else-i-text w ↦ λ h e. omega arith ])

pub returns-then-b-eq0 : goal.returns-then-b-eq0
returns-then-b-eq0 c =
    tok_none _ _ _ c.past-i.ensures (omega arith) (sym c.is_lower.ensures ∙ c.if-is_lower.false) c.if-b-eq45.false c.if-b-eq0.true

pub returns : goal.returns
returns c =
    tok_sign _ _ _ c.past-i.ensures (omega arith) (sym c.is_lower.ensures ∙ c.if-is_lower.false) c.if-b-eq45.false c.if-b-eq0.false

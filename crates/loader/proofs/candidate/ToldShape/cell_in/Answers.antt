-- `ToldShape::cell_in` meets its contract.
-- Assumes nothing.
use native.Mathlib.Omega.{arith}
use mathlib.Core.Path.{sym, ap, ◌∙◌}
use lib.ListN.{get_or}
use Rattle.loader.specs.Candidate.{row_in}
use Rattle.loader.proofs.CandidateLaws.{row_stop, row_rest, row_move, rank_here, rank_behind}
use Rattle.loader.proofs.candidate.ToldShape.cell_in.Goals as goal

pub returns-then-i-rank_at : goal.returns-then-i-rank_at
returns-then-i-rank_at c =
    c.number_at.ensures ∙ rank_here c.args.self.now.shape c.args.line.now c.args.i _ c.rank_at.ensures c.if-i-rank_at.true

pub returns-then-i-eq0 : goal.returns-then-i-eq0
returns-then-i-eq0 c =
    let says = sym c.says_stop.ensures ∙ c.if-says_stop.true in
    sym (ap (λ k. get_or (row_in c.args.self.now.shape c.args.line.now) k 0) c.if-i-eq0.true ∙ row_stop c.args.self.now.shape c.args.line.now says)

pub returns-then-says_stop : goal.returns-then-says_stop
returns-then-says_stop c =
    let says = sym c.says_stop.ensures ∙ c.if-says_stop.true in
    let before = rank_behind c.args.self.now.shape c.args.line.now c.args.i _ c.rank_at.ensures c.if-i-rank_at.false c.requires in
    sym (row_rest c.args.self.now.shape c.args.line.now says c.args.i (omega (arith, c.if-i-eq0.false)) before)

pub returns : goal.returns
returns c =
    let says = sym c.says_stop.ensures ∙ c.if-says_stop.false in
    let before = rank_behind c.args.self.now.shape c.args.line.now c.args.i _ c.rank_at.ensures c.if-i-rank_at.false c.requires in
    c.move_in.ensures ∙ sym (row_move c.args.self.now.shape c.args.line.now says c.args.i before)

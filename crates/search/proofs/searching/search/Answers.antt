-- `search::searching::search` meets its contract, by that of `run`: what `run` does not use it clears.
-- Assumes nothing.
use Prim.Native.Nat.{◌*◌, ◌≤◌}
use native.Mathlib.Omega.{arith}
use mathlib.Core.Path.{refl, sym, ◌∙◌}
use lib.ListN.{length}
use borrow.Author.Rules.{rules}
use Rattle.search.specs.Limits.{state_limit, letter_limit, set_size}
use Rattle.basics.specs.Lists.{below}
use Rattle.search.specs.PatternSet.{next}
use Rattle.search.specs.Letters.{back_by, reached}
use Rattle.search.specs.Memory.{set_bytes}
use Rattle.search.proofs.searching.SearchEnd.{answer_few, end_items, end_rows, end_many}
use Rattle.search.proofs.searching.search.Goals as goal

pub overflow_mul-at : goal.overflow_mul-at
overflow_mul-at c =
    let few = answer_few c.args.letters.now.operators _ _ state_limit c.in-Some.n (sym c.in-Some.is ∙ c.run.ensures.value) in
    search rules

pub slice_bounds-fill-count : goal.slice_bounds-fill-count
slice_bounds-fill-count c =
    let few = answer_few c.args.letters.now.operators _ _ state_limit c.in-Some.n (sym c.in-Some.is ∙ c.run.ensures.value) in
    omega (arith, few, c.run.auto.mem, c.requires.mem_len)

pub slice_bounds-fill-start : goal.slice_bounds-fill-start
slice_bounds-fill-start c =
    let few = answer_few c.args.letters.now.operators _ _ state_limit c.in-Some.n (sym c.in-Some.is ∙ c.run.ensures.value) in
    let room : c.in-Some.n * set_size ≤ length c.run.new.mem = omega (arith, few, c.run.auto.mem, c.requires.mem_len) in
    search rules

pub returns-in-Some : goal.returns-in-Some
returns-in-Some c =
    let d = c.args.letters.now.operators in
    let back = back_by c.args.letters.now in
    let letters = below c.args.letters.now.count in
    let all = reached c.args.letters.now in
    let q = sym c.in-Some.is ∙ c.run.ensures.value in
    let few = answer_few d back letters state_limit c.in-Some.n q in
    let room : c.in-Some.n * set_size ≤ length c.run.new.mem = omega (arith, few, c.run.auto.mem, c.requires.mem_len) in
    record {
      value = q;
      mem_after = end_items set_size set_bytes (next d back) (λ x. letters) letter_limit all c.run.new.mem c.run.new.successors c.run.ensures.ran c.in-Some.n _ _ c.fill.new.self q room refl
          (c.fill.ensures.after (λ y e. e)) (sym c.run.auto.mem);
      successors_after = end_rows set_size set_bytes (next d back) (λ x. letters) letter_limit all c.run.new.mem c.run.new.successors c.run.ensures.ran c.in-Some.n _ q (sym c.run.auto.successors);
    }

pub returns-in-None : goal.returns-in-None
returns-in-None c =
    let d = c.args.letters.now.operators in
    let back = back_by c.args.letters.now in
    let letters = below c.args.letters.now.count in
    let all = reached c.args.letters.now in
    let q = sym c.in-None.is ∙ c.run.ensures.value in
    record { value = q; mem_after = (end_many set_bytes (next d back) (λ x. letters) letter_limit all q _ _ c.fill-in-None.new.self (c.fill-in-None.ensures.after (λ y e. e)) c.run.auto.mem).0; successors_after = (end_many set_bytes (next d back) (λ x. letters) letter_limit all q _ _ c.fill-in-None-2.new.self (c.fill-in-None-2.ensures.after (λ y e. e)) c.run.auto.successors).1 }

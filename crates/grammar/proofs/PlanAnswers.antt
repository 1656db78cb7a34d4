-- From what the reader of a plan word is told to what it answers: one lemma for each way through it. Assumes nothing.
use mathlib.Core.Path.{◌≡◌, sym, subst, ap, ap₂, ◌∙◌}
use mathlib.Core.Bool.{Bool, true, false}
use mathlib.Core.List.{List}
use Prim.Native.Nat.{ℕ, ◌+◌, ◌*◌, ◌≤◌, ◌<◌}
use native.Mathlib.Omega.{arith}
use borrow.Author.Tests.{eq-eqb, ne_eqb}
use lib.ListN.{length, take}
use lib.Seq.{sets}
use Rattle.syntax.specs.declared.lex.Token.{Token}
use Rattle.syntax.specs.Kinds.{close_kind}
use Rattle.syntax.specs.Lex.{token_at}
use Rattle.syntax.specs.Plans.{plan_cells, plan_size}
use Rattle.syntax.specs.Tree.{plan, size, cells}
use Rattle.syntax.proofs.TreeLaws.{length_cells, stored_taken}
use Rattle.std.specs.Prelude.{Option, Some, None}
use Rattle.grammar.specs.declared.heads.Head.{Head}
use Rattle.grammar.specs.declared.phrase.Phrase.{Phrase}
use Rattle.grammar.specs.Limits.{text_limit}
use Rattle.grammar.specs.Parse.{none, some, close, parse, bind}
use Rattle.grammar.specs.PlanParse.{head_at, second_at, propositions, plan_second, plan_from, plan_at, others_at}
use Rattle.grammar.specs.Answer.{Reads}
use Rattle.grammar.proofs.ParseCases.{on_true, on_false, bind_some, bind_none}
use Rattle.grammar.proofs.ReadsInside.{In}
use Rattle.grammar.proofs.ParseLaws.{parse_inside}
use Rattle.grammar.proofs.GrammarLaws.{propositions_laws}
use Rattle.grammar.proofs.PlanHeads.{Headed, HeadRead, head_read}
use Rattle.grammar.proofs.PlanParseLaws.{second_in, plan_few}
use Rattle.grammar.proofs.AnswerLaws.{Got, reads_none, reads_some}

-- an operand that was read to a list of its own
module _ (text : List ℕ) (short : length text ≤ text_limit) {v : Token → ℕ} (at : ℕ) (h : at ≤ length text)
    {p q : List ℕ} {ph : Phrase} (g : Got v (parse propositions text 4 at) 0 p q ph) where
  within_text : In (λ y. y) text at g.tree ph.next
  within_text = parse_inside propositions_laws text at h 4 g.tree ph.next g.is

  pub operand_few : ph.count ≤ text_limit
  operand_few = let i = within_text in omega (arith, g.counted, i.low, i.high, short)

  operand_cells : length p ≡ text_limit → take ph.count q ≡ cells v g.tree
  operand_cells l =
      let c : ph.count ≡ size g.tree = omega (arith, g.counted) in
      let few = operand_few in
      ap₂ take c g.parts ∙ stored_taken v g.tree p (omega (arith, c, few, l))

  pub operand_length : length p ≡ text_limit → length (take ph.count q) ≡ ph.count
  operand_length l = ap length (operand_cells l) ∙ length_cells v g.tree ∙ omega (arith, g.counted)

module _ (text : List ℕ) (at : ℕ) (h : at ≤ length text) where
  pub no_head : {v : Token → ℕ} {n : ℕ} {p q : List ℕ} → head_at text at ≡ None → Reads v (plan_at text at) n p q None
  unfolding plan_at
  no_head e = reads_none (plan_at text at) (ap (plan_from text) e)

  module _ {hd : Head} (is : head_at text at ≡ Some hd) where
    pub headed : Headed text at hd
    headed = subst (HeadRead text at) is (head_read text at h)

    begun : plan_at text at ≡ bind (parse propositions text 4 hd.operand)
        (λ a next. plan_second hd.word text a (second_at hd.word text hd.operand next))
    unfolding plan_at
    begun = ap (plan_from text) is

    pub first_none : {v : Token → ℕ} {n : ℕ} {p q : List ℕ} → parse propositions text 4 hd.operand ≡ none
        → Reads v (plan_at text at) n p q None
    first_none e = reads_none (plan_at text at) (begun ∙ bind_none _ _ e)

    module _ {v : Token → ℕ} {pa qa : List ℕ} {ph : Phrase} (g : Got v (parse propositions text 4 hd.operand) 0 pa qa ph) where
      placed : plan_at text at ≡ plan_second hd.word text g.tree (second_at hd.word text hd.operand ph.next)
      placed = begun ∙ bind_some _ _ g.tree ph.next g.is

      pub no_second : {n : ℕ} {p q : List ℕ} → second_at hd.word text hd.operand ph.next ≡ None → Reads v (plan_at text at) n p q None
      no_second z = reads_none (plan_at text at) (placed ∙ ap (plan_second hd.word text g.tree) z)

      module _ {s : ℕ} (z : second_at hd.word text hd.operand ph.next ≡ Some s) where
        pub second_place : (hd.operand ≤ s) × (s ≤ length text)
        second_place =
            second_in text hd.word hd.operand ph.next s z headed.high
            (parse_inside propositions_laws text hd.operand headed.high 4 g.tree ph.next g.is)

        opened : plan_at text at ≡ bind (parse propositions text 4 s) (λ b end. close text (plan hd.word g.tree b) end)
        opened = placed ∙ ap (plan_second hd.word text g.tree) z

        pub second_none : {n : ℕ} {p q : List ℕ} → parse propositions text 4 s ≡ none → Reads v (plan_at text at) n p q None
        second_none e = reads_none (plan_at text at) (opened ∙ bind_none _ _ e)

        module _ {pb qb : List ℕ} {ph₂ : Phrase} (i : Got v (parse propositions text 4 s) 0 pb qb ph₂)
            (end : Token) (et : end ≡ token_at text ph₂.next) where
          whole : plan_at text at ≡ close text (plan hd.word g.tree i.tree) ph₂.next
          whole = opened ∙ bind_some _ _ i.tree ph₂.next i.is

          pub end_none : {n : ℕ} {p q : List ℕ} → (end.kind ≡ close_kind → ⊥) → Reads v (plan_at text at) n p q None
          unfolding close
          end_none k =
              reads_none (plan_at text at) (whole ∙ on_false _ _ _ (ne_eqb _ _ (λ z. k (ap (λ (t : Token). t.kind) et ∙ z))))

          module _ (short : length text ≤ text_limit) (la : length pa ≡ text_limit) (lb : length pb ≡ text_limit) where
            held_a : take ph.count qa ≡ cells v g.tree
            held_a = operand_cells text short hd.operand headed.high g la

            held_b : take ph₂.count qb ≡ cells v i.tree
            held_b = operand_cells text short s second_place.1 i lb

            size_a : length (take ph.count qa) ≡ size g.tree
            size_a = ap length held_a ∙ length_cells v g.tree

            size_b : length (take ph₂.count qb) ≡ size i.tree
            size_b = ap length held_b ∙ length_cells v i.tree

            pub plan_room : {n : ℕ} → n ≤ 8 * at
                → n + plan_size hd.word (length (take ph.count qa)) (length (take ph₂.count qb)) < 65536
            plan_room {n} b =
                let m = plan_few (length (take ph.count qa)) (length (take ph₂.count qb)) hd.word headed.numbered in
                let fa = operand_few text short hd.operand headed.high g in
                let fb = operand_few text short s second_place.1 i in
                omega (arith, b, m, size_a, size_b, fa, fb, g.counted, i.counted, h, short)

            pub plan_done : {n r : ℕ} {p q : List ℕ} → end.kind ≡ close_kind
                → r ≡ n + plan_size hd.word (length (take ph.count qa)) (length (take ph₂.count qb))
                → q ≡ sets p n (plan_cells hd.word (take ph.count qa) (take ph₂.count qb))
                → Reads v (plan_at text at) n p q (Some (record { next = end.next; count = r }))
            unfolding close size cells
            plan_done {n} {p = p} k counts writes =
                reads_some (plan_at text at) (plan hd.word g.tree i.tree)
                (whole ∙ on_true _ _ _ (eq-eqb _ _ (ap (λ (t : Token). t.kind) (sym et) ∙ k))
                ∙ ap (λ (t : Token). some (plan hd.word g.tree i.tree) t.next) (sym et))
                (counts ∙ ap₂ (λ s t. n + plan_size hd.word s t) size_a size_b)
                (writes ∙ ap₂ (λ cs ds. sets p n (plan_cells hd.word cs ds)) held_a held_b)

-- only a formula with temporal operators has plan words
module _ {v : Token → ℕ} (text : List ℕ) (at : ℕ) {n : ℕ} {p q : List ℕ} where
  pub no_plan : (m : Bool) → m ≡ false → Reads v (others_at m text at) n p q None
  no_plan m e = reads_none (others_at m text at) (ap (λ b. others_at b text at) e)

  pub has_plan : (m : Bool) {x : Option Phrase} → m ≡ true → Reads v (plan_at text at) n p q x → Reads v (others_at m text at) n p q x
  has_plan m {x} e rd = subst (λ b. Reads v (others_at b text at) n p q x) (sym e) rd

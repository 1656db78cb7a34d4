-- Bytes put one behind another. Assumes nothing.
use Prim.Native.Nat.{ℕ, ◌+◌, ◌≤◌, ◌<◌}
use native.Mathlib.Omega.{arith}
use mathlib.Core.Path.{◌≡◌, refl, sym, subst, ap, ap₂, ◌∙◌}
use mathlib.Core.List.{List, [], ◌∷◌, ◌++◌, flat_map}
use lib.ListN.{length, length-append}
use lib.Seq.{sets}
use Rattle.basics.proofs.Stores.{sets_append, put_front}
use Rattle.basics.proofs.TextLaws.{two_parts, flat_more, flat_within}
use Rattle.basics.specs.declared.text.Writer.{Writer}
use Rattle.basics.specs.Lists.{tabulate, written}
use Rattle.basics.specs.Text.{decimal, field, line}
use Rattle.basics.specs.Writer.{Puts}

pub puts_then : {w v u : Writer} {cs ds : List ℕ} → Puts w v cs → Puts v u ds → Puts w u (cs ++ ds)
puts_then {w = w} {cs = cs} {ds = ds} a b =
    record {
      at = let l = length-append cs ds in omega (arith, a.at, b.at, l);
      text = b.text ∙ ap₂ (λ t k. sets t k ds) a.text a.at ∙ sym (sets_append w.text.now w.at cs ds);
      same = b.same ∙ a.same;
      long = b.long ∙ a.long;
    }

pub puts_as : {w v : Writer} {cs ds : List ℕ} → ds ≡ cs → Puts w v cs → Puts w v ds
puts_as {w = w} {v = v} e a = subst (Puts w v) (sym e) a

pub line_length : (word : List ℕ) (a b : ℕ)
    → length (line word (decimal a ∷ decimal b ∷ [])) ≡ length word + length (field (decimal a)) + length (field (decimal b)) + 1
line_length word a b = ap length (two_parts word a b) ∙ simp length-append (omega arith)

pub puts_none : {w : Writer} → Puts w w []
puts_none {w = w} = record { at = omega arith; text = refl; same = refl; long = refl }

-- things of any length one behind another, as a loop puts them
module _ {A : Type 0} (g : A → List ℕ) (f : ℕ → A) {w v : Writer} (i : ℕ) (so_far : Puts w v (flat_map g (tabulate i f))) where
  pub turn_room : (n : ℕ) → w.at + length (flat_map g (tabulate n f)) ≤ length w.text.now → i < n → v.at + length (g (f i)) ≤ length v.text.now
  turn_room n room h =
      let l = length-append (flat_map g (tabulate i f)) (g (f i)) in
      omega (arith, so_far.at, so_far.long, room, flat_within g n f i h, ap length (flat_more g i f), l)

  pub turn_puts : {u : Writer} → Puts v u (g (f i)) → Puts w u (flat_map g (tabulate (i + 1) f))
  turn_puts p = puts_as (flat_more g i f) (puts_then so_far p)

-- bytes put from the front on
pub puts_front : {w v : Writer} {cs : List ℕ} → w.at ≡ 0 → length cs ≤ length w.text.now → Puts w v cs
    → (v.at ≡ length cs) × (v.text.now ≡ written cs w.text.now)
puts_front {w = w} {cs = cs} e room p =
    (omega (arith, p.at), p.text ∙ ap (λ k. sets w.text.now k cs) e ∙ put_front cs w.text.now room)

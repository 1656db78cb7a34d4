-- The memory once the set that letters lead to is written in its place: what the place holds, and that all else stays.
-- Assumes nothing.
use Prim.Native.Nat.{ℕ, ◌+◌, ◌*◌, ◌≤◌, ◌<◌}
use mathlib.Core.Path.{◌≡◌}
use mathlib.Core.Logic.{◌⊎◌, inl, inr}
use mathlib.Core.List.{List}
use lib.ListN.{length, get_or}
use Rattle.basics.specs.Limits.{operator_limit}
use Rattle.search.specs.Limits.{set_size}
use Rattle.search.specs.PatternSet.{PatternSet, next_all}
use Rattle.search.specs.Memory.{set_bytes, set_in, with_next}
use Rattle.search.proofs.PatternSetLaws.{length_next_all}
use Rattle.search.proofs.SlotsLaws.{with_before, with_there, with_behind, with_length}
use Rattle.search.proofs.LimitsLaws.{set_packing}
use Rattle.search.proofs.PackedSets.{packed_length}

module _ (d : ℕ) (back : ℕ → ℕ → ℕ) (mem : List ℕ) (i : ℕ) (letters : List ℕ) (m : ℕ)
    (room : m * set_size + set_size ≤ length mem) where
  abbrev made : PatternSet
  made = next_all d back (set_in d mem i) letters

  bytes_size : length (set_bytes made) ≡ set_size
  bytes_size = packed_length set_size made

  pub next_in_place : d ≤ operator_limit → set_in d (with_next d back mem i letters m) m ≡ next_all d back (set_in d mem i) letters
  next_in_place few =
      (set_packing d few).back made (length_next_all d back (set_in d mem i) letters) (with_next d back mem i letters m) m
      (with_there set_size mem (set_bytes made) m room bytes_size)

  pub others_stay : (length (with_next d back mem i letters m) ≡ length mem)
      × ((k : ℕ) → (k < m * set_size) ⊎ (m * set_size + set_size ≤ k) → get_or (with_next d back mem i letters m) k 0 ≡ get_or mem k 0)
  others_stay = (with_length set_size mem (set_bytes made) m room bytes_size, outside)
    where
      outside : (k : ℕ) → (k < m * set_size) ⊎ (m * set_size + set_size ≤ k) → get_or (with_next d back mem i letters m) k 0 ≡ get_or mem k 0
      outside k (inl h) = with_before set_size mem (set_bytes made) m room k h
      outside k (inr h) = with_behind set_size mem (set_bytes made) m room bytes_size k h

-- The loading call, in the shape in which the code makes it.
-- Assumes nothing.
use Rattle.tables.specs.declared.shape.Table.{Table}
use Rattle.lines.specs.declared.refusal.Refusal.{Refusal}
use Rattle.std.specs.Prelude.{Err, Result, Option, Some, None}
use Prim.Native.Nat.{ℕ, ◌*◌, ◌≤◌, ◌<◌}
use native.Mathlib.Nat.{le_refl}
use native.Mathlib.Omega.{arith}
use mathlib.Core.Path.{◌≡◌, refl, sym, ap, subst, ◌∙◌}
use mathlib.Core.List.{List}
use lib.ListN.{length, take}
use borrow.Author.Tests.{lt-ltb, le-ltb}
use Rattle.basics.specs.Lists.{written}
use Rattle.basics.specs.declared.order.Order.{Order}
use Rattle.basics.specs.declared.order.Order.TheVariants.{Set, Read}
use Rattle.basics.proofs.ListsLaws.{front_in, front_taken, taken_length}
use Rattle.lines.specs.declared.refusal.Refusal.TheVariants.{ShortMemory}
use Rattle.play.specs.Limits.{belief_limit}
use Rattle.play.specs.Cells.{row_size, table_size}
use Rattle.printer.specs.Text.{table_text}
use Rattle.wellformed.specs.WellFormed.{Shaped}
use Rattle.tables.specs.declared.shape.Shape.{Shape}
use Rattle.loader.specs.Candidate.{shape_in, worst_in, cells_in, print_in}
use Rattle.loader.specs.Difference.{difference}
use Rattle.loader.specs.LoadedAs.{first_fault, fault_in, loaded_at, cells_at, count_at, loaded_by, cells_by, table_after, told_loaded, used_rows, LoadedAs}
use Rattle.loader.proofs.CandidateLaws.{cells_length}
use Rattle.loader.proofs.CandidatePrint.{candidate_shaped}
use Rattle.loader.proofs.LoadedIffDue.{load_told}

module _ (s table : List ℕ) where
  -- the answer r, with the table left as `after`, is what the call promises
  abbrev pub Loads : Result Table Refusal → List ℕ → Type 0
  Loads r after =
      (r ≡ loaded_by (length table) s) × ((after ≡ table_after s table) × LoadedAs (length table) s (told_loaded r) (used_rows r after))

  loads : (r : Result Table Refusal) (after : List ℕ) → r ≡ loaded_by (length table) s → after ≡ table_after s table → Loads r after
  loads r after p q = (p, (q, load_told s table r after (p, q)))

  pub load_short : length table < table_size → Loads (Err ShortMemory) table
  unfolding loaded_by cells_by
  load_short h = let short = lt-ltb (length table) table_size h in loads (Err ShortMemory) table (rw short refl) (rw short refl)

-- the cells of all rows
few_cells : (o : Order) (rows : ℕ) → rows ≤ belief_limit → rows * row_size o ≤ table_size
few_cells Set rows h = omega arith
few_cells Read rows h = omega arith

-- the candidate of a text, as it is found
module _ (s : List ℕ) {shape : Shape} (is_shape : shape ≡ shape_in s) where
  shaped : (worst : ℕ) → worst ≡ worst_in shape.rows s → Shaped (cells_in shape s) shape worst
  shaped worst is_worst =
      subst (Shaped (cells_in shape s) shape) (sym is_worst)
      (subst (λ h. Shaped (cells_in h s) h (worst_in h.rows s)) (sym is_shape) (candidate_shaped s))

  -- what the writing of its cells asks
  pub cells_ask : shape.rows * row_size shape.order ≤ table_size
  cells_ask = few_cells shape.order shape.rows (shaped (worst_in shape.rows s) refl).sized.few

  -- its cells stand in a memory, rows of k
  module _ (memory : List ℕ) {cells : List ℕ} (are_cells : cells ≡ written (cells_in shape s) memory) {k : ℕ} (is_row : k ≡ row_size shape.order) where
    abbrev size : ℕ
    size = shape.rows * k

    size_is : size ≡ length (cells_in shape s)
    size_is = ap (λ n. shape.rows * n) is_row ∙ sym (cells_length shape s)

    pub size_few : size ≤ table_size
    size_few = omega (arith, size_is, cells_length shape s, cells_ask)

    pub cells_in_lem : size ≤ length cells
    cells_in_lem = front_in (cells_in shape s) memory cells size size_is are_cells

    cells_taken : take size cells ≡ cells_in shape s
    cells_taken = front_taken (cells_in shape s) memory cells size size_is are_cells

    pub cells_long : size ≡ length (take size cells)
    cells_long = taken_length (cells_in shape s) memory cells size size_is are_cells

    -- so many of them are copied, and these are the cells that are to be written
    module _ (place : Option ℕ) {n : ℕ} (is_count : n ≡ count_at place size) where
      pub count_le : n ≤ size
      count_le = subst (λ k. k ≤ size) (sym is_count) (at place)
        where
          at : (p : Option ℕ) → count_at p size ≤ size
          at None = le_refl _
          at (Some line) = omega arith

      copied : take n cells ≡ cells_at place (cells_in shape s)
      copied = ap (λ k. take k cells) is_count ∙ at place
        where
          at : (p : Option ℕ) → take (count_at p size) cells ≡ cells_at p (cells_in shape s)
          at None = cells_taken
          at (Some line) = refl

    module _ {worst : ℕ} (is_worst : worst ≡ worst_in shape.rows s) where
      -- what the search for the first fault asks
      pub fault_asks : Shaped (take size cells) shape worst
      fault_asks = subst (λ t. Shaped t shape worst) (sym cells_taken) (shaped worst is_worst)

      module _ (table : List ℕ) (room : table_size ≤ length table) {place : Option ℕ}
          (is_place : place ≡ first_fault (difference 1 s (table_text (take size cells) shape worst)) (take size cells) shape worst) where
        place_is : fault_in s ≡ place
        unfolding fault_in print_in
        place_is =
            sym
            (is_place ∙ ap (λ t. first_fault (difference 1 s (table_text t shape worst)) t shape worst) cells_taken
            ∙ ap (λ w. first_fault (difference 1 s (table_text (cells_in shape s) shape w)) (cells_in shape s) shape w) is_worst
            ∙ ap (λ (h : Shape). let w = worst_in h.rows s in first_fault (difference 1 s (table_text (cells_in h s) h w)) (cells_in h s) h w) is_shape)

        pub load_done : (r : Result Table Refusal) → r ≡ loaded_at place shape worst
            → (after : List ℕ) → after ≡ written (cells_at place (take size cells)) table → Loads s table r after
        unfolding loaded_by cells_by
        load_done r q after e =
            let enough = le-ltb (length table) table_size room in
            let answer : loaded_by (length table) s ≡ loaded_at place (shape_in s) (worst_in (shape_in s).rows s) = rw (enough, place_is) refl in
            let due : cells_by (length table) s ≡ cells_at place (cells_in (shape_in s) s) = rw (enough, place_is) refl in
            loads s table r after
            (q ∙ ap (loaded_at place shape) is_worst ∙ ap (λ (h : Shape). loaded_at place h (worst_in h.rows s)) is_shape ∙ sym answer)
            (e
            ∙ ap (λ c. written c table) (ap (cells_at place) cells_taken ∙ ap (λ (h : Shape). cells_at place (cells_in h s)) is_shape ∙ sym due))

        -- the same of so many cells as are copied
        pub load_counted : {n : ℕ} → n ≡ count_at place size → (r : Result Table Refusal) → r ≡ loaded_at place shape worst
            → (after : List ℕ) → after ≡ written (take n cells) table → Loads s table r after
        load_counted is_count r q after e =
            load_done r q after (e ∙ ap (λ c. written c table) (copied place is_count ∙ sym (ap (cells_at place) cells_taken)))

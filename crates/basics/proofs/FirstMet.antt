-- A search lists things in the order in which they are first met: entry by entry, and each entry's steps in their order.
-- Assumes nothing.
use Prim.Native.Nat.{ℕ, zero, suc, ◌≤◌, ◌<◌}
use native.Mathlib.Decide.{dec_le}
use native.Mathlib.Omega.{arith}
use mathlib.Core.Path.{◌≡◌, refl, sym, ap, ◌∙◌, subst}
use mathlib.Core.Logic.{◌⊎◌, inl, inr}
use mathlib.Core.Bool.{Bool, cond}
use mathlib.Core.List.Memᴰ
use mathlib.Core.List.{List, [], ◌∷◌, ◌++◌, append-nil}
use lib.Dec.{eqb, ltb}
use lib.ListN.{length, get_or, length-append, get_or-append}
use lib.Seq.{append_snoc, get_or-append_seam}
use borrow.Author.Tests.{eqb-false, eq-eqb, ne_eqb}
use Rattle.basics.specs.Says.{Says}
use Rattle.basics.specs.Member.{◌∈◌}
use Rattle.basics.specs.Reach.{Listing, closed, over, is_in, add_new, add_all, explore, reachable}
use Rattle.basics.proofs.Booleans.{test, cond_elim}
use Rattle.basics.proofs.MemberLaws.{index_of_lem}
use Rattle.basics.proofs.ReachLaws.{is_in_says}
use Rattle.basics.proofs.GrowingList.{add_old, add_new_lem}

module _ {A : Type 0} (steps : A → List A) (first : A) where
  -- the steps of entry k
  abbrev pub steps_at : List A → ℕ → List A
  steps_at xs k = steps (get_or xs k first)

  -- entry j is first met from entry i by its step s: it leads to entry j, and each one before it to an entry before j
  pub record FirstMet (xs : List A) (j i s : ℕ) : Type 0 where
    pub earlier : i < j
    pub step : s < length (steps_at xs i)
    pub leads : get_or (steps_at xs i) s first ≡ get_or xs j first
    pub before : (k u : ℕ) → u < length (steps_at xs k) → (k < i) ⊎ ((k ≡ i) × (u < s))
        → (l : ℕ) × (l < j) × (get_or xs l first ≡ get_or (steps_at xs k) u first)

  abbrev pub AllMet : List A → Type 0
  AllMet xs = (j : ℕ) → 0 < j → j < length xs → (i : ℕ) × (s : ℕ) × FirstMet xs j i s

  -- ---- a value for each entry, made from that of the entry from which it is first met

  module _ {B : Type 0} (base : B) (grow : (i s : ℕ) → B → B) (xs : List A) where
    -- the values of the first n entries
    abbrev pub Along : ℕ → (ℕ → B) → Type 0
    Along n f = (f 0 ≡ base) × ((j : ℕ) → 0 < j → j < n → (i : ℕ) × (s : ℕ) × FirstMet xs j i s × (f j ≡ grow i s (f i)))

    pub values_along : AllMet xs → (n : ℕ) → n ≤ length xs → (f : ℕ → B) × Along n f
    values_along met zero h = (λ j. base, (refl, λ j pos b. absurd (omega arith)))
    values_along met (suc zero) h = (λ j. base, (refl, λ j pos b. absurd (omega arith)))
    values_along met (suc (suc n)) h = more (values_along met (suc n) (omega arith))
      where
        more : (f : ℕ → B) × Along (suc n) f → (f : ℕ → B) × Along (suc (suc n)) f
        more (f, (first, each)) =
            let (i, s, m) = met (suc n) (omega arith) h in
            let g : ℕ → B = λ j. cond (eqb j (suc n)) (grow i s (f i)) (f j) in
            let old : (j : ℕ) → j < suc n → g j ≡ f j = λ j l. rw (ne_eqb j (suc n) (λ e. omega arith)) in (
              g,
              (
                old 0 (omega arith) ∙ first,
                λ j pos b.
                    elim (dec_le (suc j) (suc n)) [
                      | yes l ↦ let (k, u, p, e) = each j pos l in (k, u, p, old j l ∙ e ∙ ap (grow k u) (sym (old k (omega (arith, p.earlier)))))
                      | no l ↦
                          let z : suc n ≡ j = omega arith in (
                            i,
                            s,
                            subst (λ (x : ℕ). FirstMet xs x i s) z m,
                            rw (eq-eqb j (suc n) (sym z)) (ap (grow i s) (sym (old i m.earlier))),
                          )
                    ],
              ),
            )

  -- ---- the search

  -- the steps of the entries before i have been taken, and s of those of entry i
  abbrev Taken : List A → ℕ → ℕ → Type 0
  Taken xs i s = (k u : ℕ) → u < length (steps_at xs k) → (k < i) ⊎ ((k ≡ i) × (u < s)) → get_or (steps_at xs k) u first ∈ xs

  -- ---- more entries behind change nothing

  module _ (xs ys : List A) where
    entry : (k : ℕ) → k < length xs → get_or (xs ++ ys) k first ≡ get_or xs k first
    entry k h = get_or-append xs ys first k h

    steps_kept : (k : ℕ) → k < length xs → steps_at (xs ++ ys) k ≡ steps_at xs k
    steps_kept k h = ap steps (entry k h)

    met_kept : (j i s : ℕ) → j < length xs → FirstMet xs j i s → FirstMet (xs ++ ys) j i s
    met_kept j i s b m =
        let ib : i < length xs = omega (arith, m.earlier) in
        record {
          earlier = m.earlier;
          step = subst (λ l. s < length l) (sym (steps_kept i ib)) m.step;
          leads = ap (λ l. get_or l s first) (steps_kept i ib) ∙ m.leads ∙ sym (entry j b);
          before = λ k u h o.
              let kb : k < length xs = elim o [ inl l ↦ omega arith | inr (e, l) ↦ omega arith ] in
              let (l, lj, e) = m.before k u (subst (λ t. u < length t) (steps_kept k kb) h) o in
              (l, lj, entry l (omega arith) ∙ e ∙ sym (ap (λ t. get_or t u first) (steps_kept k kb)));
        }

    taken_kept : (i s : ℕ) → i < length xs → Taken xs i s → Taken (xs ++ ys) i s
    taken_kept i s b t k u h o =
        let kb : k < length xs = elim o [ inl l ↦ omega arith | inr (e, l) ↦ omega arith ] in
        Memᴰ.append_left ys
        (subst (λ l. get_or l u first ∈ xs) (sym (steps_kept k kb)) (t k u (subst (λ l. u < length l) (steps_kept k kb) h) o))

  -- ---- one step more

  module _ (xs done : List A) (y : A) (rest : List A) (i : ℕ) (b : i < length xs) (e : steps_at xs i ≡ done ++ y ∷ rest) where
    this : get_or (steps_at xs i) (length done) first ≡ y
    this = ap (λ l. get_or l (length done) first) e ∙ get_or-append_seam done y rest first

    taken_more : (zs : List A) → steps_at zs i ≡ steps_at xs i → Taken zs i (length done) → y ∈ zs → Taken zs i (suc (length done))
    taken_more zs q t m k u h (inl l) = t k u h (inl l)
    taken_more zs q t m k u h (inr (p, l)) =
        elim (dec_le (suc u) (length done)) [
          | yes v ↦ t k u h (inr (p, v))
          | no v ↦
              let w : u ≡ length done = omega arith in
              Memᴰ.cast (ap (λ n. get_or (steps_at zs n) u first) p ∙ ap (λ n. get_or (steps_at zs i) n first) w ∙ ap (λ l. get_or l (length done) first) q ∙ this) m
        ]

    -- y is put behind
    module _ (met : AllMet xs) (taken : Taken xs i (length done)) where
      abbrev zs : List A
      zs = xs ++ (y ∷ [])

      zs_length : length zs ≡ suc (length xs)
      zs_length = length-append xs (y ∷ []) ∙ omega arith

      met_last : FirstMet zs (length xs) i (length done)
      met_last =
          record {
            earlier = b;
            step = subst (λ l. length done < length l) (sym (steps_kept xs (y ∷ []) i b ∙ e)) (omega (arith, length-append done (y ∷ rest)));
            leads = ap (λ l. get_or l (length done) first) (steps_kept xs (y ∷ []) i b) ∙ this ∙ sym (get_or-append_seam xs y [] first);
            before = λ k u h o.
                let kb : k < length xs = elim o [ inl l ↦ omega arith | inr (e, l) ↦ omega arith ] in
                let (l, lb, q) = index_of_lem first (taken k u (subst (λ t. u < length t) (steps_kept xs (y ∷ []) k kb) h) o) in
                (l, lb, entry xs (y ∷ []) l lb ∙ q ∙ sym (ap (λ t. get_or t u first) (steps_kept xs (y ∷ []) k kb)));
          }

      met_more : AllMet zs
      met_more j pos h =
          elim (dec_le (suc j) (length xs)) [
            | yes l ↦ let (i', s, m) = met j pos l in (i', s, met_kept xs (y ∷ []) j i' s l m)
            | no l ↦
                let q : length xs ≡ j = omega (arith, zs_length) in
                (i, length done, subst (λ (n : ℕ). FirstMet zs n i (length done)) q met_last)
          ]

  -- ---- the steps of one entry, then of all

  taken_all : (xs : List A) (i : ℕ) → Taken xs i (length (steps_at xs i)) → Taken xs (suc i) 0
  taken_all xs i t k u h (inr (p, l)) = absurd (omega arith)
  taken_all xs i t k u h (inl l) =
      elim (dec_le (suc k) i) [
        | yes q ↦ t k u h (inl q)
        | no q ↦ let e : k ≡ i = omega arith in t k u h (inr (e, subst (λ (n : ℕ). u < length (steps_at xs n)) e h))
      ]

  module _ (same : A → A → Bool) (says : (x y : A) → Says (same x y) (x ≡ y)) where
    met_step : (xs done : List A) (y : A) (rest : List A) (i : ℕ) → i < length xs → steps_at xs i ≡ done ++ y ∷ rest
        → AllMet xs → Taken xs i (length done)
        → let zs = add_new same xs y in (i < length zs) × (steps_at zs i ≡ done ++ y ∷ rest) × AllMet zs × Taken zs i (suc (length done))
    met_step xs done y rest i b e met taken =
        elim (test (is_in same y xs)) [
          | inl t ↦
              subst (λ zs. (i < length zs) × (steps_at zs i ≡ done ++ y ∷ rest) × AllMet zs × Taken zs i (suc (length done))) (sym (add_old same xs y t))
              (b, e, met, taken_more xs done y rest i b e xs refl taken ((is_in_says same says y xs).0 t))
          | inr f ↦
              let kept = steps_kept xs (y ∷ []) i b in
              subst (λ zs. (i < length zs) × (steps_at zs i ≡ done ++ y ∷ rest) × AllMet zs × Taken zs i (suc (length done))) (sym (add_new_lem same xs y f)) (
                omega (arith, zs_length xs done y rest i b e met taken),
                kept ∙ e,
                met_more xs done y rest i b e met taken,
                taken_more xs done y rest i b e (xs ++ (y ∷ [])) kept (taken_kept xs (y ∷ []) i (length done) b taken)
                    (Memᴰ.append_right xs (Memᴰ.head refl)),
              )
        ]

    met_steps : (rest done xs : List A) (i : ℕ) → i < length xs → steps_at xs i ≡ done ++ rest → AllMet xs → Taken xs i (length done)
        → let zs = add_all same xs rest in (i < length zs) × (steps_at zs i ≡ done ++ rest) × AllMet zs × Taken zs i (length (done ++ rest))
    unfolding add_all
    met_steps [] done xs i b e met taken = (b, e, met, subst (λ l. Taken xs i (length l)) (sym (append-nil done)) taken)
    met_steps (y ∷ rest) done xs i b e met taken =
        let (b', e', met', taken') = met_step xs done y rest i b e met taken in
        let snoc = append_snoc done y rest in
        let long : suc (length done) ≡ length (done ++ (y ∷ [])) = omega (arith, length-append done (y ∷ [])) in
        subst (λ l. let zs = add_all same (add_new same xs y) rest in (i < length zs) × (steps_at zs i ≡ l) × AllMet zs × Taken zs i (length l)) snoc
        (met_steps rest (done ++ (y ∷ [])) (add_new same xs y) i b' (e' ∙ sym snoc) met' (subst (λ (n : ℕ). Taken (add_new same xs y) i n) long taken'))

    module _ (limit : ℕ) where
      Met : Listing A → Type 0
      Met (closed xs) = AllMet xs
      Met over = Unit {0}

      explore_met : (fuel : ℕ) (seen : List A) (i : ℕ) → i ≤ length seen → AllMet seen → Taken seen i 0 → Met (explore same steps first limit fuel seen i)
      unfolding explore Met
      explore_met zero seen i h met taken = tt
      explore_met (suc fuel) seen i h met taken =
          let zs : List A = add_all same seen (steps_at seen i) in
          cond_elim Met (ltb limit (length seen)) over _ (λ t. tt)
          (λ f.
          cond_elim Met (eqb i (length seen)) (closed seen) _ (λ t. met)
          (λ n.
          let (b, e, met', taken') = met_steps (steps_at seen i) [] seen i (omega (arith, eqb-false i (length seen) n)) refl met taken in
          explore_met fuel zs (suc i) b met' (taken_all zs i (subst (λ l. Taken zs i (length l)) (sym e) taken'))))

      -- every entry but the first of a closed list
      pub closed_met : (xs : List A) → reachable same steps first limit ≡ closed xs → AllMet xs
      unfolding reachable Met
      closed_met xs e =
          rw e at
          (explore_met (suc limit) (first ∷ []) 0 (omega arith) (λ j pos h. absurd (omega arith)) (λ k u h o.
          elim o [ inl l ↦ absurd (omega arith) | inr (p, l) ↦ absurd (omega arith) ]))

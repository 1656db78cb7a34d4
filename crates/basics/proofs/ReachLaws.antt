-- The list of what can be reached is right, and it is given up exactly where there is more than the limit.
-- Assumes nothing.
use Prim.Native.Nat.{ℕ, zero, suc, ◌+◌, ◌≤◌, ◌<◌, suc-le-suc}
use native.Mathlib.Nat.{le_of_suc-le-suc, eq-or-lt_of_le}
use native.Mathlib.Omega.{arith}
use mathlib.Core.Path.{◌≡◌, refl, sym, ap, ◌∙◌, subst}
use mathlib.Core.Logic.{◌↔◌, ◌⊎◌, inl, inr}
use mathlib.Core.Bool.{Bool, true, false, cond, ◌||◌, true≢false, false≢true}
use mathlib.Core.List.Memᴰ
use mathlib.Core.List.{List, [], ◌∷◌, ◌++◌, map, foldl, append_assoc, append-nil, foldl-append}
use lib.Dec.{eqb, ltb}
use lib.ListN.{length, get_or, take, length-append, get_or-append}
use lib.Seq.{length-take-le}
use borrow.Author.Tests.{ltb-true, ltb-false, le-ltb, eqb-true, eqb-false, eq-eqb, ne_eqb}
use Rattle.basics.specs.Says.{Says}
use Rattle.basics.specs.Member.{◌∈◌, Distinct, distinct_nil, distinct_cons}
use Rattle.basics.specs.Reach.{Listing, closed, over, is_in, add_new, add_all, explore, reachable, Reached, reached_first, reached_step, Enumerates, AtLeast, Spelled, index_in}
use Rattle.basics.proofs.Booleans.{cond_elim}
use Rattle.basics.proofs.MemberLaws.{index_of_lem, get_d_in, distinct_snoc, in_take, distinct_take, distinct_length_le}

module _ {A : Type 0} (same : A → A → Bool) (same_says : (x y : A) → Says (same x y) (x ≡ y)) where
  pub is_in_says : (x : A) (xs : List A) → Says (is_in same x xs) (x ∈ xs)
  unfolding is_in
  is_in_says x [] = (λ e. absurd (false≢true e), λ m. absurd (Memᴰ.not-nil m))
  is_in_says x (y ∷ ys) = at (same x y) (same_says x y) (is_in same x ys) (is_in_says x ys)
    where
      at : (b : Bool) → Says b (x ≡ y) → (c : Bool) → Says c (x ∈ ys) → Says (b || c) (x ∈ y ∷ ys)
      at true e c f = (λ t. Memᴰ.head (e.0 refl), λ m. refl)
      at false e c f = (λ t. Memᴰ.tail (f.0 t), λ m. other (Memᴰ.cases_cons m))
        where
          other : (x ≡ y) ⊎ (x ∈ ys) → c ≡ true
          other (inl p) = absurd (false≢true (e.1 p))
          other (inr m) = f.1 m

  -- ---- what putting more behind a list does

  pub record Added (xs ys zs : List A) : Type 0 where
    pub tail : List A
    pub extends : zs ≡ xs ++ tail
    pub has : (y : A) → y ∈ ys → y ∈ zs
    pub from : (z : A) → z ∈ zs → (z ∈ xs) ⊎ (z ∈ ys)
    pub distinct : Distinct xs → Distinct zs

  added_new : (xs : List A) (x : A) → Added xs (x ∷ []) (add_new same xs x)
  unfolding add_new
  added_new xs x =
      cond_elim (Added xs (x ∷ [])) (is_in same x xs) xs (xs ++ (x ∷ []))
      (λ e.
      record {
        tail = [];
        extends = sym (append-nil xs);
        has = λ y m. Memᴰ.cast (Memᴰ.eq_of_singleton m) ((is_in_says x xs).0 e);
        from = λ z m. inl m;
        distinct = λ d. d;
      })
      (λ e.
      record {
        tail = x ∷ [];
        extends = refl;
        has = λ y m. Memᴰ.append_right xs m;
        from = λ z m. Memᴰ.append_cases xs m;
        distinct = λ d. distinct_snoc x d (λ m. true≢false (sym ((is_in_says x xs).1 m) ∙ e));
      })

  pub added_all : (ys xs : List A) → Added xs ys (add_all same xs ys)
  unfolding add_all
  added_all [] xs =
      record { tail = []; extends = sym (append-nil xs); has = λ y m. absurd (Memᴰ.not-nil m); from = λ z m. inl m; distinct = λ d. d }
  added_all (y ∷ ys) xs = both (added_new xs y) (added_all ys (add_new same xs y))
    where
      both : Added xs (y ∷ []) (add_new same xs y) → Added (add_new same xs y) ys (add_all same (add_new same xs y) ys) → Added xs (y ∷ ys)
          (add_all same (add_new same xs y) ys)
      both p q =
          record {
            tail = p.tail ++ q.tail;
            extends = q.extends ∙ ap (λ l. l ++ q.tail) p.extends ∙ append_assoc xs p.tail q.tail;
            has = λ z m. put z (Memᴰ.cases_cons m);
            from = λ z m. out z (q.from z m);
            distinct = λ d. q.distinct (p.distinct d);
          }
        where
          put : (z : A) → (z ≡ y) ⊎ (z ∈ ys) → z ∈ add_all same (add_new same xs y) ys
          put z (inl e) = rw q.extends (Memᴰ.append_left q.tail (p.has z (Memᴰ.head e)))
          put z (inr m) = q.has z m

          first : (z : A) → (z ∈ xs) ⊎ (z ∈ y ∷ []) → (z ∈ xs) ⊎ (z ∈ y ∷ ys)
          first z (inl m) = inl m
          first z (inr m) = inr (Memᴰ.head (Memᴰ.eq_of_singleton m))

          out : (z : A) → (z ∈ add_new same xs y) ⊎ (z ∈ ys) → (z ∈ xs) ⊎ (z ∈ y ∷ ys)
          out z (inl m) = first z (p.from z m)
          out z (inr m) = inr (Memᴰ.tail m)

  module _ (steps : A → List A) (first : A) where
    -- what holds of the list at each turn of `explore`
    record Progress (seen : List A) (i : ℕ) : Type 0 where
      distinct : Distinct seen
      sound : (x : A) → x ∈ seen → Reached steps first x
      begun : first ∈ seen
      expanded : (j : ℕ) → j < i → (y : A) → y ∈ steps (get_or seen j first) → y ∈ seen
      within : i ≤ length seen

    progress_first : Progress (first ∷ []) 0
    progress_first =
        record {
          distinct = distinct_cons (λ m. Memᴰ.not-nil m) distinct_nil;
          sound = λ x m. subst (Reached steps first) (sym (Memᴰ.eq_of_singleton m)) reached_first;
          begun = Memᴰ.head refl;
          expanded = λ j h. absurd (omega arith);
          within = omega arith;
        }

    progress_step : (seen : List A) (i : ℕ) → i < length seen → Progress seen i → Progress (add_all same seen (steps (get_or seen i first))) (suc i)
    progress_step seen i h g = grow (add_all same seen (steps (get_or seen i first))) (added_all (steps (get_or seen i first)) seen)
      where
        grow : (zs : List A) → Added seen (steps (get_or seen i first)) zs → Progress zs (suc i)
        grow zs q =
            record {
              distinct = q.distinct g.distinct;
              sound = λ x m. sound x (q.from x m);
              begun = kept first g.begun;
              expanded = λ j l y m. expanded j (eq-or-lt_of_le (le_of_suc-le-suc l)) y (rw (same_entry j (omega arith)) at m);
              within = subst (λ n. suc i ≤ n) (sym (ap length q.extends ∙ length-append seen q.tail)) (omega arith);
            }
          where
            kept : (y : A) → y ∈ seen → y ∈ zs
            kept y m = rw q.extends (Memᴰ.append_left q.tail m)

            sound : (x : A) → (x ∈ seen) ⊎ (x ∈ steps (get_or seen i first)) → Reached steps first x
            sound x (inl m) = g.sound x m
            sound x (inr m) = reached_step (g.sound (get_or seen i first) (get_d_in seen i first h)) m

            same_entry : (j : ℕ) → j < length seen → get_or zs j first ≡ get_or seen j first
            same_entry j l = ap (λ z. get_or z j first) q.extends ∙ get_or-append seen q.tail first j l

            expanded : (j : ℕ) → (j ≡ i) ⊎ (j < i) → (y : A) → y ∈ steps (get_or seen j first) → y ∈ zs
            expanded j (inl e) y m = q.has y (rw e at m)
            expanded j (inr l) y m = kept y (g.expanded j l y m)

    -- when every entry has had its steps taken, nothing else can be reached
    progress_end : (seen : List A) → Progress seen (length seen) → Enumerates steps first seen
    progress_end seen g = record { distinct = g.distinct; exact = λ x. (g.sound x, complete) }
      where
        complete : {x : A} → Reached steps first x → x ∈ seen
        complete reached_first = g.begun
        complete (reached_step {x = x} {y = y} r m) = next (index_of_lem first (complete r))
          where
            next : (j : ℕ) × (j < length seen) × (get_or seen j first ≡ x) → y ∈ seen
            next p = g.expanded p.0 p.1 y (rw p.2 m)

    -- a list of more than n entries has n + 1 of them
    progress_over : (seen : List A) (i n : ℕ) → n < length seen → Progress seen i → AtLeast steps first (suc n)
    progress_over seen i n h g =
        record {
          some = take (suc n) seen;
          count = length-take-le (suc n) seen h;
          distinct = distinct_take (suc n) g.distinct;
          sound = λ x m. g.sound x (in_take (suc n) seen m);
        }

    module _ (limit : ℕ) where
      -- what the answer must be
      Right : Listing A → Type 0
      Right (closed xs) = Enumerates steps first xs × (length xs ≤ limit)
      Right over = AtLeast steps first (suc limit)

      explore_right : (fuel : ℕ) (seen : List A) (i : ℕ) → fuel + i ≡ suc limit → Progress seen i → Right (explore same steps first limit fuel seen i)
      unfolding explore Right
      explore_right zero seen i e g = progress_over seen i limit (omega (arith, g.within)) g
      explore_right (suc fuel) seen i e g =
          let zs : List A = add_all same seen (steps (get_or seen i first)) in
          let go : Progress zs (suc i) → Right (explore same steps first limit fuel zs (suc i)) = explore_right fuel zs (suc i) (omega arith) in
          cond_elim Right (ltb limit (length seen)) over _ (λ t. progress_over seen i limit (ltb-true limit (length seen) t) g)
          (λ f.
          cond_elim Right (eqb i (length seen)) (closed seen) _
          (λ t. (progress_end seen (subst (Progress seen) (eqb-true i (length seen) t) g), ltb-false limit (length seen) f))
          (λ n. go (progress_step seen i (omega (arith, g.within, eqb-false i (length seen) n)) g)))

      reachable_right : Right (reachable same steps first limit)
      unfolding reachable
      reachable_right = explore_right (suc limit) (first ∷ []) 0 (omega arith) progress_first

      -- a closed list has, without repeats, exactly what can be reached, and that is within the limit
      pub closed_lists : (xs : List A) → reachable same steps first limit ≡ closed xs → Enumerates steps first xs × (length xs ≤ limit)
      unfolding Right
      closed_lists xs e = rw e at reachable_right

      -- `over` means that more than the limit can be reached
      pub over_iff : (reachable same steps first limit ≡ over) ↔ AtLeast steps first (suc limit)
      unfolding Right
      over_iff = (λ e. rw e at reachable_right, λ many. is_over many (reachable same steps first limit) refl)
        where
          is_over : AtLeast steps first (suc limit) → (r : Listing A) → reachable same steps first limit ≡ r → r ≡ over
          is_over many over e = refl
          is_over many (closed xs) e =
              let l : Enumerates steps first xs × (length xs ≤ limit) = closed_lists xs e in
              absurd (omega (arith, distinct_length_le many.distinct xs (λ x m. (l.0.exact x).1 (many.sound x m)), many.count, l.1))

-- ---- steps by letters

module _ {A L : Type 0} (move : A → L → A) (letters : List L) (first : A) where
  by_letters : A → List A
  by_letters s = map (move s) letters

  reached_word : (word : List L) → ((a : L) → a ∈ word → a ∈ letters) → (s : A) → Reached by_letters first s → Reached by_letters first (foldl move s word)
  unfolding by_letters
  reached_word [] h s r = r
  reached_word (a ∷ w) h s r =
      reached_word w (λ b m. h b (Memᴰ.tail m)) (move s a) (reached_step r (Memᴰ.map (move s) (h a (Memᴰ.head refl))))

  spelled_word : {x : A} → Reached by_letters first x → Spelled move letters first x
  unfolding by_letters
  spelled_word reached_first = record { word = []; spelled = λ a m. absurd (Memᴰ.not-nil m); leads = refl }
  spelled_word (reached_step {x = x} {y = y} r m) = more (spelled_word r) (Memᴰ.of_map (move x) letters m)
    where
      more : Spelled move letters first x → (a : L) × (a ∈ letters) × (move x a ≡ y) → Spelled move letters first y
      more w (a, k, e) =
          record {
            word = w.word ++ (a ∷ []);
            spelled = λ b n. known b (Memᴰ.append_cases w.word n);
            leads = foldl-append move first w.word (a ∷ []) ∙ ap (λ s. move s a) w.leads ∙ e;
          }
        where
          known : (b : L) → (b ∈ w.word) ⊎ (b ∈ a ∷ []) → b ∈ letters
          known b (inl n) = w.spelled b n
          known b (inr n) = Memᴰ.cast (Memᴰ.eq_of_singleton n) k

  -- what can be reached is what letters lead to
  pub reached_iff_spelled : (x : A) → Reached (λ s. map (move s) letters) first x ↔ Spelled move letters first x
  unfolding by_letters
  reached_iff_spelled x = (spelled_word, λ w. rw w.leads at (reached_word w.word w.spelled first reached_first))

-- what is in a list stands at its number
index_at : {A : Type 0} (same : A → A → Bool) → ((x y : A) → Says (same x y) (x ≡ y)) → (x : A) (xs : List A) (e : A) → is_in same x xs ≡ true
    → (index_in same x xs < length xs) × (get_or xs (index_in same x xs) e ≡ x)
unfolding is_in index_in
index_at same says x [] e t = absurd (false≢true t)
index_at same says x (y ∷ ys) e t = at (same x y) refl (is_in same x ys) refl t (index_at same says x ys e)
  where
    at : (b : Bool) → same x y ≡ b → (c : Bool) → is_in same x ys ≡ c → (b || c) ≡ true
        → (is_in same x ys ≡ true → (index_in same x ys < length ys) × (get_or ys (index_in same x ys) e ≡ x))
        → (cond b 0 (suc (index_in same x ys)) < suc (length ys)) × (get_or (y ∷ ys) (cond b 0 (suc (index_in same x ys))) e ≡ x)
    at true q c r u ih = (omega arith, sym ((says x y).0 q))
    at false q c r u ih = let h = ih (r ∙ u) in (omega (arith, h.0), h.1)

module _ {A : Type 0} (same : A → A → Bool) (says : (x y : A) → Says (same x y) (x ≡ y)) where
  -- what is in a list stands at its number
  pub index_right : (x : A) (xs : List A) (e : A) → x ∈ xs → (index_in same x xs < length xs) × (get_or xs (index_in same x xs) e ≡ x)
  index_right x xs e m = index_at same says x xs e ((is_in_says same says x xs).1 m)

  -- what is in a list is told apart by its number
  pub index_one : (x y : A) (xs : List A) → x ∈ xs → y ∈ xs → eqb (index_in same x xs) (index_in same y xs) ≡ same x y
  index_one x y xs m k = at (same x y) (says x y)
    where
      at : (b : Bool) → Says b (x ≡ y) → eqb (index_in same x xs) (index_in same y xs) ≡ b
      at true s = eq-eqb _ _ (ap (λ z. index_in same z xs) (s.0 refl))
      at false s = ne_eqb (index_in same x xs) (index_in same y xs)
          (λ e. false≢true (s.1 (sym (index_right x xs x m).1 ∙ ap (λ i. get_or xs i x) e ∙ (index_right y xs x k).1)))

  module _ (steps : A → List A) (first : A) (limit : ℕ) where
    Begins : List A → Listing A → Type 0
    Begins seen (closed xs) = (ys : List A) × (xs ≡ seen ++ ys)
    Begins seen over = Unit {0}

    cond_begins : (seen : List A) (b : Bool) (x y : Listing A) → Begins seen x → Begins seen y → Begins seen (cond b x y)
    cond_begins seen true x y p q = p
    cond_begins seen false x y p q = q

    later : (seen zs : List A) (l : Listing A) → ((ys : List A) × (zs ≡ seen ++ ys)) → Begins zs l → Begins seen l
    unfolding Begins
    later seen zs (closed xs) (ys, e) (ws, f) = (ys ++ ws, f ∙ ap (λ t. t ++ ws) e ∙ append_assoc seen ys ws)
    later seen zs over p q = tt

    explore_begins : (fuel : ℕ) (seen : List A) (i : ℕ) → Begins seen (explore same steps first limit fuel seen i)
    unfolding Begins explore
    explore_begins zero seen i = tt
    explore_begins (suc fuel) seen i =
        let a = added_all same says (steps (get_or seen i first)) seen in
        let zs = add_all same seen (steps (get_or seen i first)) in
        cond_begins seen (ltb limit (length seen)) over _ tt
        (cond_begins seen (eqb i (length seen)) (closed seen) _ ([], sym (append-nil seen))
        (later seen zs (explore same steps first limit fuel zs (suc i)) (a.tail, a.extends) (explore_begins fuel zs (suc i))))

    -- a closed list begins with what was met before
    pub explore_tail : (fuel : ℕ) (seen : List A) (i : ℕ) (xs : List A) → explore same steps first limit fuel seen i ≡ closed xs → (ys : List A)
        × (xs ≡ seen ++ ys)
    unfolding Begins
    explore_tail fuel seen i xs e = rw e at (explore_begins fuel seen i)

    -- a closed list begins with the first thing
    pub closed_begins : (xs : List A) → reachable same steps first limit ≡ closed xs → (ys : List A) × (xs ≡ first ∷ ys)
    unfolding reachable
    closed_begins xs e = explore_tail (suc limit) (first ∷ []) 0 xs e

-- ---- a listing that closes does not depend on its limit

-- listed things are not given up
pub closed_not_over : {A : Type 0} (xs : List A) → closed xs ≡ over → ⊥
closed_not_over xs q = let z : ◌≡◌ {A = ℕ} 0 1 = cc in absurd (omega arith)

module _ {A : Type 0} (same : A → A → Bool) (steps : A → List A) (first : A) (n m : ℕ) (le : n ≤ m) (xs : List A) where
  explore_limit : (fuel more : ℕ) → fuel ≤ more → (seen : List A) (i : ℕ) → explore same steps first n fuel seen i ≡ closed xs
      → explore same steps first m more seen i ≡ closed xs
  unfolding explore
  explore_limit zero more h seen i e = absurd (closed_not_over xs (sym e))
  explore_limit (suc fuel) zero h seen i e = absurd (omega arith)
  explore_limit (suc fuel) (suc more) h seen i e =
      at (ltb n (length seen)) refl (eqb i (length seen)) _ _
      (explore_limit fuel more (le_of_suc-le-suc h) (add_all same seen (steps (get_or seen i first))) (suc i)) e
    where
      at : (b : Bool) → ltb n (length seen) ≡ b → (c : Bool) (rest rest' : Listing A) → (rest ≡ closed xs → rest' ≡ closed xs)
          → cond b over (cond c (closed seen) rest) ≡ closed xs → cond (ltb m (length seen)) over (cond c (closed seen) rest') ≡ closed xs
      at true l c rest rest' f q = absurd (closed_not_over xs (sym q))
      at false l true rest rest' f q = rw (le-ltb m (length seen) (omega (arith, ltb-false n (length seen) l))) q
      at false l false rest rest' f q = rw (le-ltb m (length seen) (omega (arith, ltb-false n (length seen) l))) (f q)

  pub reachable_limit : reachable same steps first n ≡ closed xs → reachable same steps first m ≡ closed xs
  unfolding reachable
  reachable_limit = explore_limit (suc n) (suc m) (suc-le-suc le) (first ∷ []) 0

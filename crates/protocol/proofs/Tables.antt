-- One place of a table changed; entries counted; membership; the tests as facts.
use Rattle.std.proofs.Common.{◌≡◌, ℕ, suc, ◌+◌, ◌<◌, ◌≤◌, true, false, cond, eqb, ◌≢◌, ◌⊎◌, List, [], ◌∷◌, ◌++◌, ℤ, pos, negsuc, Some, None, sym, refl, ap, ◌∙◌, subst, inl, inr, arith}
use mathlib.Core.Path.{fun_ext}
use native.Mathlib.Decide.{ℕ_discrete}
use Rattle.std.proofs.lemmas.Bool.{false≢true, leb-true, leb-false, eqb-true, eq-eqb, ne_eqb}
use Rattle.protocol.specs.declared.record.Entry.{Entry}
use Rattle.protocol.specs.Tests.{is_rank, covers, ended_by, used}
use Rattle.protocol.specs.State.{put}
use Rattle.protocol.specs.Account.{In, one_if, times}

-- tables
module _ {V : Type 0} where
  pub put_same : (f : ℕ → V) (i : ℕ) (v : V) → put f i v i ≡ v
  unfolding put
  put_same f i v = ap (λ b. cond b v (f i)) (eq-eqb i i refl)

  pub put_other : (f : ℕ → V) (i : ℕ) (v : V) (j : ℕ) → j ≢ i → put f i v j ≡ f j
  unfolding put
  put_other f i v j h = ap (λ b. cond b v (f j)) (ne_eqb j i h)

  -- what holds of the new value if j is the place, and of the old one if it is not, holds at j
  pub put_at : (P : V → Type 0) (f : ℕ → V) (i : ℕ) (v : V) (j : ℕ) → (j ≡ i → P v) → (j ≢ i → P (f j)) → P (put f i v j)
  put_at P f i v j at_i elsewhere = go (ℕ_discrete j i)
    where
      go : Dec (j ≡ i) → P (put f i v j)
      go (yes e) = subst (λ k. P (put f i v k)) (sym e) (subst P (sym (put_same f i v)) (at_i e))
      go (no h) = subst P (sym (put_other f i v j h)) (elsewhere h)

  pub put_id : (f : ℕ → V) (i : ℕ) (v : V) → f i ≡ v → put f i v ≡ f
  put_id f i v e = fun_ext (λ j. put_at (λ w. w ≡ f j) f i v j (λ q. sym e ∙ ap f (sym q)) (λ h. refl))

  pub put_put : (f : ℕ → V) (i : ℕ) (v w : V) → put (put f i v) i w ≡ put f i w
  put_put f i v w = fun_ext (λ j. put_at (λ u. u ≡ put f i w j) (put f i v) i w j (λ q. sym (ap (put f i w) q ∙ put_same f i w)) (λ h. put_other f i v j h ∙ sym (put_other f i w j h)))

-- a part that the change leaves alone
pub put_keeps : {V W : Type 0} (g : V → W) (f : ℕ → V) (i : ℕ) (v : V) → g v ≡ g (f i) → (j : ℕ) → g (put f i v j) ≡ g (f j)
put_keeps g f i v e j = put_at (λ u. g u ≡ g (f j)) f i v j (λ q. e ∙ ap (λ m. g (f m)) (sym q)) (λ h. refl)

-- two tables changed at one place
pub put_both : {V W : Type 0} (P : V → W → Type 0) (f : ℕ → V) (g : ℕ → W) (i : ℕ) (v : V) (w : W) → P v w → ((j : ℕ) → j ≢ i → P (f j) (g j)) → (j : ℕ) → P (put f i v j) (put g i w j)
put_both P f g i v w at_i elsewhere j = go (ℕ_discrete j i)
  where
    go : Dec (j ≡ i) → P (put f i v j) (put g i w j)
    go (yes e) = subst (λ k. P (put f i v k) (put g i w k)) (sym e) (subst (λ u. P u (put g i w i)) (sym (put_same f i v)) (subst (P v) (sym (put_same g i w)) at_i))
    go (no h) = subst (λ u. P u (put g i w j)) (sym (put_other f i v j h)) (subst (P (f j)) (sym (put_other g i w j h)) (elsewhere j h))

-- entries under a rank, with one more entry at the end
module _ {X : Type 0} where
  pub times_none : (r : ℕ) (l : List (Entry X)) → l ≡ [] → times r l ≡ 0
  unfolding times
  times_none r l e = ap (times r) e

  pub times_in : (r : ℕ) (l : List (Entry X)) → (times r l ≡ 0) ⊎ ((e : Entry X) × In e l × (e.rank ≡ r))
  unfolding times
  times_in r [] = inl refl
  times_in r (d ∷ l) = go (ℕ_discrete d.rank r) (times_in r l)
    where
      go : Dec (d.rank ≡ r) → (times r l ≡ 0) ⊎ ((e : Entry X) × In e l × (e.rank ≡ r)) → (times r l + one_if (eqb d.rank r) ≡ 0) ⊎ ((e : Entry X) × In e (d ∷ l) × (e.rank ≡ r))
      go (yes q) h = inr (d, inl refl, q)
      go (no k) (inl none) = inl (let b : one_if (eqb d.rank r) ≡ 0 = ap one_if (ne_eqb d.rank r k) in omega arith)
      go (no k) (inr (e, m, q)) = inr (e, inr m, q)

  pub times_same : (l : List (Entry X)) (e : Entry X) → times e.rank (l ++ (e ∷ [])) ≡ suc (times e.rank l)
  unfolding times
  times_same [] e = ap (λ b. 0 + one_if b) (eq-eqb e.rank e.rank refl)
  times_same (d ∷ l) e = let ih : times e.rank (l ++ (e ∷ [])) ≡ suc (times e.rank l) = times_same l e in omega arith

  pub times_other : (l : List (Entry X)) (e : Entry X) (r : ℕ) → e.rank ≢ r → times r (l ++ (e ∷ [])) ≡ times r l
  unfolding times
  times_other [] e r h = ap (λ b. 0 + one_if b) (ne_eqb e.rank r h)
  times_other (d ∷ l) e r h = ap (λ t. t + one_if (eqb d.rank r)) (times_other l e r h)

-- membership
module _ {V : Type 0} where
  pub in_left : (x : V) (l m : List V) → In x l → In x (l ++ m)
  in_left x [] m h = absurd h
  in_left x (y ∷ l) m (inl e) = inl e
  in_left x (y ∷ l) m (inr h) = inr (in_left x l m h)

  pub in_last : (x : V) (l : List V) → In x (l ++ (x ∷ []))
  in_last x [] = inl refl
  in_last x (y ∷ l) = inr (in_last x l)

  pub in_one_more : (x y : V) (l : List V) → In x (l ++ (y ∷ [])) → In x l ⊎ (x ≡ y)
  in_one_more x y [] (inl e) = inr e
  in_one_more x y [] (inr h) = absurd h
  in_one_more x y (w ∷ l) (inl e) = inl (inl e)
  in_one_more x y (w ∷ l) (inr h) = go (in_one_more x y l h)
    where
      go : In x l ⊎ (x ≡ y) → ((x ≡ w) ⊎ In x l) ⊎ (x ≡ y)
      go (inl k) = inl (inr k)
      go (inr e) = inr e

-- the tests, as facts
pub equals_yes : (v : ℤ) (r : ℕ) → is_rank v r ≡ true → v ≡ pos r
equals_yes (pos a) r e = ap pos (eqb-true a r e)
equals_yes (negsuc m) r e = absurd (false≢true e)

pub equals_no : (v : ℤ) (r : ℕ) → is_rank v r ≡ false → v ≡ pos r → ⊥
equals_no v r e h = absurd (false≢true (sym e ∙ (ap (λ w. is_rank w r) h ∙ eq-eqb r r refl)))

pub past_yes : (v : ℤ) (h : ℕ) → ended_by v h ≡ true → (e : ℕ) × (v ≡ pos e) × (e ≤ h)
past_yes (pos e) h t = (e, refl, leb-true e h t)
past_yes (negsuc m) h t = absurd (false≢true t)

pub covers_yes : (v : ℤ) (r : ℕ) → covers v r ≡ true → (g : ℕ) × (v ≡ pos g) × (r ≤ g)
covers_yes (pos g) r t = (g, refl, leb-true r g t)
covers_yes (negsuc m) r t = absurd (false≢true t)

pub covers_no : (v : ℤ) (r g : ℕ) → covers v r ≡ false → v ≡ pos g → r ≤ g → ⊥
covers_no (pos a) r g t h k = let f : a < r = leb-false r a t in let q : a ≡ g = cc in omega arith
covers_no (negsuc m) r g t h k = let q : ◌≡◌ {A = ℕ} 0 1 = cc in omega arith

pub unused_no : (v : ℤ) (r : ℕ) → used v ≡ false → v ≡ pos r → ⊥
unused_no v r e h = false≢true (sym e ∙ ap used h)

-- constructors
pub pos_eq : (a b : ℕ) → pos a ≡ pos b → a ≡ b
pos_eq a b e = cc

pub neg_pos : (m r : ℕ) → negsuc m ≡ pos r → ⊥
neg_pos m r e = let q : ◌≡◌ {A = ℕ} 0 1 = cc in omega arith

pub some_eq : {V : Type 0} (a b : V) → Some a ≡ Some b → a ≡ b
some_eq a b e = cc

pub none_some : {V : Type 0} (a : V) → None ≡ Some a → ⊥
none_some a e = let q : ◌≡◌ {A = ℕ} 0 1 = cc in omega arith

pub below_next : (r t : ℕ) → r < t + 1 → (r < t) ⊎ (r ≡ t)
below_next r t h = go (ℕ_discrete r t)
  where
    go : Dec (r ≡ t) → (r < t) ⊎ (r ≡ t)
    go (yes e) = inr e
    go (no k) = inl (omega arith)

-- What is read and written at a cell's place below is read and written at that cell above.
use Rattle.std.proofs.Common.{◌≡◌, ℕ, ◌<◌, Bool, true, false, cond, ◌≢◌, List, [], map, length, get_or, set, replicate, sym, refl, ap, ◌∙◌, subst, ⊎_elim, arith, length-set, get_or-set_other, get_or-set_same}
use lib.ListN.{length-replicate, get_or-replicate}
use Rattle.std.specs.List.{range_with_len}
use Rattle.std.proofs.lemmas.List.{ext_get_or}
use Rattle.std.proofs.lemmas.List.FromFn.{length-map-range_with_len, get_or-map-range_with_len}
use Rattle.std.proofs.lemmas.Bool.{cases_eq, cond-true, cond-false}
use Rattle.arrangements.specs.Arranged.{rearranged, CellsAbove}

-- n elements, the one at p i of xs at each i
module _ {X : Type 0} (d : X) (p : ℕ → ℕ) (n : ℕ) where
  moved : List X → List X
  moved xs = map (λ i. get_or xs (p i) d) (range_with_len 0 n)

  length_moved : (xs : List X) → length (moved xs) ≡ n
  unfolding moved
  length_moved xs = length-map-range_with_len (λ i. get_or xs (p i) d) 0 n

  get_d_moved : (xs : List X) (i : ℕ) → i < n → get_or (moved xs) i d ≡ get_or xs (p i) d
  unfolding moved
  get_d_moved xs i below = get_or-map-range_with_len (λ k. get_or xs (p k) d) 0 n i i d below (omega arith)

  module _ (one : (k i : ℕ) → k < n → i < n → p k ≡ p i → k ≡ i) where
    set_moved : (xs : List X) (i : ℕ) (x : X) → i < n → p i < length xs → moved (set xs (p i) x) ≡ set (moved xs) i x
    set_moved xs i x below inside =
        ext_get_or d (moved (set xs (p i) x)) (set (moved xs) i x)
        (length_moved (set xs (p i) x) ∙ sym (length-set (moved xs) i x ∙ length_moved xs))
        (λ k h.
        let kn : k < n = omega (arith, length_moved (set xs (p i) x)) in
        let long : i < length (moved xs) = omega (arith, length_moved xs) in
        ⊎_elim
        (λ (e : k ≡ i). rw e (get_d_moved (set xs (p i) x) i below ∙ get_or-set_same xs (p i) x d inside ∙ sym (get_or-set_same (moved xs) i x d long)))
        (λ (ne : k ≢ i).
        let np : p k ≢ p i = λ e. ne (one k i kn below e) in
        get_d_moved (set xs (p i) x) k kn ∙ get_or-set_other xs (p i) (p k) x d np ∙ sym (get_or-set_other (moved xs) i k x d ne ∙ get_d_moved xs k kn))
        (cases_eq k i))

  replicate_moved : (x : X) → ((i : ℕ) → i < n → p i < n) → moved (replicate n x) ≡ replicate n x
  replicate_moved x inside =
      ext_get_or d (moved (replicate n x)) (replicate n x) (length_moved (replicate n x) ∙ sym (length-replicate n x))
      (λ k h.
      let kn : k < n = omega (arith, length_moved (replicate n x)) in
      get_d_moved (replicate n x) k kn ∙ get_or-replicate n (p k) x d (inside k kn) ∙ sym (get_or-replicate n k x d kn))

-- an arrangement that fits n: its places are below n, and have a way back
module _ {X : Type 0} (d : X) (fits : ℕ → Bool) (place cell : ℕ → ℕ → ℕ)
    (within : (n i : ℕ) → fits n ≡ true → i < n → place n i < n)
    (returning : (n i : ℕ) → fits n ≡ true → i < n → cell n (place n i) ≡ i) (xs : List X) where
  rearranged_is : fits (length xs) ≡ true → (zs : List X) → length zs ≡ length xs → rearranged d fits place zs ≡ moved d (place (length xs)) (length xs) zs
  unfolding rearranged moved
  rearranged_is fit zs long =
      ap (λ k. cond (fits k) (map (λ i. get_or zs (place k i) d) (range_with_len 0 k)) []) long ∙ cond-true (fits (length xs)) _ [] fit

  fitting : fits (length xs) ≡ true → CellsAbove d fits place xs (length xs)
  fitting fit =
      let n : ℕ = length xs in
      let is : rearranged d fits place xs ≡ moved d (place n) n xs = rearranged_is fit xs refl in
      let one : (k i : ℕ) → k < n → i < n → place n k ≡ place n i → k ≡ i =
      λ k i hk hi e. sym (returning n k fit hk) ∙ ap (cell n) e ∙ returning n i fit hi in
      record {
        size = sym (ap length is ∙ length_moved d (place n) n xs);
        fit = sym (cond-true (fits n) n 0 fit);
        within = λ i h. within n i fit h;
        read = λ i h. ap (λ zs. get_or zs i d) is ∙ get_d_moved d (place n) n xs i h;
        write = λ i x h.
            rearranged_is fit (set xs (place n i) x) (length-set xs (place n i) x)
            ∙ set_moved d (place n) n one xs i x h (within n i fit h)
            ∙ ap (λ zs. set zs i x) (sym is);
        fill = λ x h.
            rearranged_is fit (replicate n x) (length-replicate n x) ∙ replicate_moved d (place n) n x (λ i below. within n i fit below);
      }

  unfit : fits (length xs) ≡ false → CellsAbove d fits place xs 0
  unfolding rearranged
  unfit none =
      record {
        size = sym (ap length (cond-false (fits (length xs)) _ [] none));
        fit = sym (cond-false (fits (length xs)) (length xs) 0 none);
        within = λ i h. absurd (omega arith);
        read = λ i h. absurd (omega arith);
        write = λ i x h. absurd (omega arith);
        fill = λ x h. absurd (omega arith);
      }

  -- as the code finds it
  module _ (n : ℕ) (all : n ≡ length xs) where
    pub above_fit : true ≡ fits n → CellsAbove d fits place xs n
    above_fit fit = subst (CellsAbove d fits place xs) (sym all) (fitting (ap fits (sym all) ∙ sym fit))

    pub above_unfit : false ≡ fits n → CellsAbove d fits place xs 0
    above_unfit none = unfit (ap fits (sym all) ∙ sym none)

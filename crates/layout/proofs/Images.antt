-- The bytes of a function of words: each word, and the store of one.
use Rattle.std.proofs.Common.{◌≡◌, ℕ, zero, suc, ◌+◌, ◌-◌, ◌*◌, ◌/◌, ◌%◌, ◌^◌, ◌<◌, ◌≤◌, ltb, List, length, get_or, sym, ap, ◌∙◌, inl, ⊎_elim, arith}
use Rattle.std.proofs.lemmas.List.FromFn.{fill_by_all, length-map-range_with_len, get_or-map-range_with_len}
use Rattle.std.proofs.lemmas.Bool.{cases_eq, cases_lt, cond-true, cond-false, lt-ltb, le-ltb}
use Rattle.layout.specs.Words.{word, put, byte_of}
use Rattle.layout.specs.Blocks.{place, sum_words, Checked, stored}
use Rattle.layout.specs.Image.{sum_of, full, byte_at, bytes_of}
use Rattle.layout.proofs.Puts.{byte_put, byte_put_other, length_put, word_from_bytes}
use Rattle.layout.proofs.Sums.{sum_none, sum_more, sum_of_none, sum_of_more}
use Rattle.layout.proofs.Stored.{outside, length_stored}

pub full_plain : (f : ℕ → ℕ → ℕ) (b j : ℕ) → j < 63 → full f b j ≡ f b j
full_plain f b j h = cond-true (ltb j 63) _ _ (lt-ltb j 63 h)

pub full_check : (f : ℕ → ℕ → ℕ) (b j : ℕ) → 63 ≤ j → full f b j ≡ (b + 1 + sum_of f b 63) % 2 ^ 64
full_check f b j h = cond-false (ltb j 63) _ _ (le-ltb j 63 h)

module _ (f : ℕ → ℕ → ℕ) where
  pub byte_at_place : (b j i : ℕ) → j < 64 → i < 8 → byte_at f (place b j + i) ≡ byte_of (full f b j) i
  byte_at_place b j i h l =
      let x : (place b j + i) / 512 ≡ b = omega arith in
      let y : (place b j + i) % 512 / 8 ≡ j = omega arith in
      let z : (place b j + i) % 8 ≡ i = omega arith in
      ap (λ v. byte_of (full f v ((place b j + i) % 512 / 8)) ((place b j + i) % 8)) x
      ∙ ap (λ v. byte_of (full f b v) ((place b j + i) % 8)) y
      ∙ ap (λ v. byte_of (full f b j) v) z

  module _ (blocks : ℕ) where
    pub length_bytes : length (bytes_of f blocks) ≡ 512 * blocks
    length_bytes = length-map-range_with_len (byte_at f) 0 (512 * blocks)

    pub byte_bytes : (k : ℕ) → k < 512 * blocks → get_or (bytes_of f blocks) k 0 ≡ byte_at f k
    byte_bytes k h = get_or-map-range_with_len (byte_at f) 0 (512 * blocks) k k 0 h (omega arith)

    -- each word, the check too
    pub word_bytes : (b j : ℕ) → b < blocks → j < 64 → word (bytes_of f blocks) (place b j) ≡ full f b j % 2 ^ 64
    word_bytes b j h l =
        word_from_bytes (bytes_of f blocks) (place b j) (full f b j)
        (λ i lt. byte_bytes (place b j + i) (omega arith) ∙ byte_at_place b j i l lt)

    sum_bytes : (b k : ℕ) → b < blocks → k ≤ 63 → (sum_words (bytes_of f blocks) b k) % 2 ^ 64 ≡ sum_of f b k % 2 ^ 64
    sum_bytes b zero h l = omega (arith, sum_none (bytes_of f blocks) b, sum_of_none f b)
    sum_bytes b (suc k) h l =
        omega (
          arith,
          sum_more (bytes_of f blocks) b k,
          sum_of_more f b k,
          sum_bytes b k h (omega arith),
          word_bytes b k h (omega arith),
          full_plain f b k (omega arith),
        )

    -- every block has its check
    pub checked_bytes : (b : ℕ) → b < blocks → Checked (bytes_of f blocks) b
    checked_bytes b h =
        omega (arith, word_bytes b 63 h (omega arith), full_check f b 63 (omega arith), sum_bytes b 63 h (omega arith))

-- g differs from f at word j of block b alone
module _ (f g : ℕ → ℕ → ℕ) (b j : ℕ) (same : (a k : ℕ) → k < 63 → ((a ≡ b) × (k ≡ j) → ⊥) → g a k ≡ f a k) where
  sum_same : (a k : ℕ) → k ≤ 63 → ((i : ℕ) → i < k → (a ≡ b) × (i ≡ j) → ⊥) → sum_of g a k ≡ sum_of f a k
  sum_same a zero h ne = sum_of_none g a ∙ sym (sum_of_none f a)
  sum_same a (suc k) h ne =
      omega (
        arith,
        sum_of_more f a k,
        sum_of_more g a k,
        same a k (omega arith) (ne k (omega arith)),
        sum_same a k (omega arith) (λ i l. ne i (omega arith)),
      )

  -- the two sums past word j
  sum_past : (k : ℕ) → j < k → k ≤ 63 → sum_of g b k + f b j ≡ sum_of f b k + g b j
  sum_past zero h l = absurd (omega arith)
  sum_past (suc k) h l =
      let s = sum_of_more f b k in
      let t = sum_of_more g b k in
      ⊎_elim
      (λ (e : k ≡ j).
      omega (arith, sum_same b k (omega arith) (λ i lt y. let d = y.1 in omega arith), ap (f b) e, ap (g b) e))
      (λ (e : k ≡ j → ⊥). omega (arith, sum_past k (omega arith) (omega arith), same b k (omega arith) (λ y. e y.1)))
      (cases_eq k j)

  full_other : (a k : ℕ) → k < 64 → ((a ≡ b) × (k ≡ j) → ⊥) → ((a ≡ b) × (k ≡ 63) → ⊥) → full g a k ≡ full f a k
  full_other a k h ne nc =
      ⊎_elim
      (λ (l : k < 63). full_plain g a k l ∙ same a k l ne ∙ sym (full_plain f a k l))
      (λ (l : 63 ≤ k).
      full_check g a k l
      ∙ ap (λ z. (a + 1 + z) % 2 ^ 64) (sum_same a 63 (omega arith) (λ i lt y. nc (y.0, omega arith)))
      ∙ sym (full_check f a k l))
      (cases_lt k 63)

  module _ (blocks : ℕ) (hb : b < blocks) (hj : j < 63) where
    abbrev old : List ℕ
    old = bytes_of f blocks

    abbrev first : List ℕ
    first = put old (place b j) (g b j)

    abbrev check : ℕ
    check = ((word old (place b 63) + g b j) % 2 ^ 64 + (2 ^ 64 - word old (place b j))) % 2 ^ 64

    check_is : check ≡ full g b 63
    check_is =
        omega (
          arith,
          word_bytes f blocks b j hb (omega arith),
          full_plain f b j hj,
          word_bytes f blocks b 63 hb (omega arith),
          full_check f b 63 (omega arith),
          full_check g b 63 (omega arith),
          sum_past 63 hj (omega arith),
        )

    long : length first ≡ 512 * blocks
    long = length_put old (place b j) (g b j) ∙ length_bytes f blocks

    byte_in_word : (i : ℕ) → i < 8 → get_or (stored old b j (g b j)) (place b j + i) 0 ≡ byte_of (full g b j) i
    byte_in_word i h =
        byte_put_other first (place b 63) check (place b j + i) (inl (omega arith))
        ∙ byte_put old (place b j) (g b j) (omega (arith, length_bytes f blocks)) i h
        ∙ ap (λ w. byte_of w i) (sym (full_plain g b j hj))

    byte_in_check : (i : ℕ) → i < 8 → get_or (stored old b j (g b j)) (place b 63 + i) 0 ≡ byte_of (full g b 63) i
    byte_in_check i h =
        byte_put first (place b 63) check (omega (arith, long)) i h ∙ ap (λ w. byte_of w i) check_is

    byte_elsewhere : (a k i : ℕ) → a < blocks → k < 64 → i < 8 → ((a ≡ b) × (k ≡ j) → ⊥) → ((a ≡ b) × (k ≡ 63) → ⊥) →
        get_or (stored old b j (g b j)) (place a k + i) 0 ≡ byte_of (full g a k) i
    byte_elsewhere a k i ha hk h ne nc =
        byte_put_other first (place b 63) check (place a k + i) (outside a k b 63 i hk (omega arith) h nc)
        ∙ byte_put_other old (place b j) (g b j) (place a k + i) (outside a k b j i hk (omega arith) h ne)
        ∙ byte_bytes f blocks (place a k + i) (omega arith)
        ∙ byte_at_place f a k i hk h
        ∙ ap (λ w. byte_of w i) (sym (full_other a k hk ne nc))

    byte_anywhere : (a k i : ℕ) → a < blocks → k < 64 → i < 8 → get_or (stored old b j (g b j)) (place a k + i) 0 ≡ byte_of (full g a k) i
    byte_anywhere a k i ha hk h =
        ⊎_elim
        (λ (x : a ≡ b).
        ⊎_elim
        (λ (y : k ≡ j). rw (x, y) (byte_in_word i h))
        (λ (y : k ≡ j → ⊥).
        ⊎_elim (λ (z : k ≡ 63). rw (x, z) (byte_in_check i h)) (λ (z : k ≡ 63 → ⊥). byte_elsewhere a k i ha hk h (λ v. y v.1) (λ v. z v.1))
        (cases_eq k 63))
        (cases_eq k j))
        (λ (x : a ≡ b → ⊥). byte_elsewhere a k i ha hk h (λ v. x v.0) (λ v. x v.0))
        (cases_eq a b)

    -- the store of g's word makes the bytes of g out of the bytes of f
    pub bytes_stored : bytes_of g blocks ≡ stored (bytes_of f blocks) b j (g b j)
    bytes_stored =
        sym
        (fill_by_all (byte_at g) (stored old b j (g b j)) (512 * blocks) 0 (length_stored old b j (g b j) ∙ length_bytes f blocks)
        (λ k h.
        let e : k ≡ place (k / 512) (k % 512 / 8) + k % 8 = omega arith in
        ap (λ z. get_or (stored old b j (g b j)) z 0) e
        ∙ byte_anywhere (k / 512) (k % 512 / 8) (k % 8) (omega arith) (omega arith) (omega arith)))

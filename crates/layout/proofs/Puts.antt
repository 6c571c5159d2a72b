-- What a put leaves: the word put, the other words, the length.
use Rattle.std.proofs.Common.{◌≡◌, ℕ, zero, suc, ◌+◌, ◌*◌, ◌%◌, ◌^◌, ◌<◌, ◌≤◌, ◌⊎◌, List, length, get_or, ap, ◌∙◌, inl, inr, ⊎_elim, arith}
use Rattle.std.proofs.lemmas.List.{length-set, get_or-set_same, get_or-set_other}
use Rattle.layout.specs.Words.{word, put, byte_of}

-- what holds at 0 to 7 holds below 8
pub below_8 : (P : ℕ → Type 0) → P 0 → P 1 → P 2 → P 3 → P 4 → P 5 → P 6 → P 7 → (i : ℕ) → i < 8 → P i
below_8 P a b c d e f g h zero l = a
below_8 P a b c d e f g h (suc zero) l = b
below_8 P a b c d e f g h (suc (suc zero)) l = c
below_8 P a b c d e f g h (suc (suc (suc zero))) l = d
below_8 P a b c d e f g h (suc (suc (suc (suc zero)))) l = e
below_8 P a b c d e f g h (suc (suc (suc (suc (suc zero))))) l = f
below_8 P a b c d e f g h (suc (suc (suc (suc (suc (suc zero)))))) l = g
below_8 P a b c d e f g h (suc (suc (suc (suc (suc (suc (suc zero))))))) l = h
below_8 P a b c d e f g h (suc (suc (suc (suc (suc (suc (suc (suc n)))))))) l = absurd (omega arith)

pub length_put : (m : List ℕ) (at w : ℕ) → length (put m at w) ≡ length m
unfolding put
length_put m at w = simp length-set

-- a byte outside the eight
pub byte_put_other : (m : List ℕ) (at w k : ℕ) → (k < at) ⊎ (at + 8 ≤ k) → get_or (put m at w) k 0 ≡ get_or m k 0
unfolding put
byte_put_other m at w k h = grind (arith, get_or-set_other)

pub byte_put : (m : List ℕ) (at w : ℕ) → at + 8 ≤ length m → (i : ℕ) → i < 8 → get_or (put m at w) (at + i) 0 ≡ byte_of w i
unfolding put
byte_put m at w h =
    below_8 (λ i. get_or (put m at w) (at + i) 0 ≡ byte_of w i)
    (grind (arith, get_or-set_same, get_or-set_other, length-set))
    (grind (arith, get_or-set_same, get_or-set_other, length-set))
    (grind (arith, get_or-set_same, get_or-set_other, length-set))
    (grind (arith, get_or-set_same, get_or-set_other, length-set))
    (grind (arith, get_or-set_same, get_or-set_other, length-set))
    (grind (arith, get_or-set_same, get_or-set_other, length-set))
    (grind (arith, get_or-set_same, get_or-set_other, length-set))
    (grind (arith, get_or-set_same, get_or-set_other, length-set))

-- eight bytes of a word write it again, modulo 2^64
digits : (w : ℕ) →
    byte_of w 0 + byte_of w 1 * 256 + byte_of w 2 * 65536 + byte_of w 3 * 16777216 + byte_of w 4 * 4294967296
    + byte_of w 5 * 1099511627776 + byte_of w 6 * 281474976710656 + byte_of w 7 * 72057594037927936 ≡ w % 2 ^ 64
digits w = omega arith

-- a list that has the bytes of w from `at` on has the word w there
pub word_from_bytes : (m : List ℕ) (at w : ℕ) → ((i : ℕ) → i < 8 → get_or m (at + i) 0 ≡ byte_of w i) → word m at ≡ w % 2 ^ 64
unfolding word
word_from_bytes m at w h =
    rw (
      ap (λ k. get_or m k 0) (let e : at ≡ at + 0 = omega arith in e) ∙ h 0 (omega arith),
      h 1 (omega arith),
      h 2 (omega arith),
      h 3 (omega arith),
      h 4 (omega arith),
      h 5 (omega arith),
      h 6 (omega arith),
      h 7 (omega arith),
    )
    (digits w)

pub word_put_same : (m : List ℕ) (at w : ℕ) → at + 8 ≤ length m → word (put m at w) at ≡ w % 2 ^ 64
word_put_same m at w h = word_from_bytes (put m at w) at w (byte_put m at w h)

-- the words at a and at b share no byte
abbrev pub Apart : ℕ → ℕ → Type 0
Apart a b = (a + 8 ≤ b) ⊎ (b + 8 ≤ a)

-- two words of the same bytes
pub word_same : (m l : List ℕ) (a b : ℕ) → ((i : ℕ) → i < 8 → get_or m (a + i) 0 ≡ get_or l (b + i) 0) → word m a ≡ word l b
unfolding word
word_same m l a b h =
    let e : a ≡ a + 0 = omega arith in
    rw (
      ap (λ k. get_or m k 0) e ∙ h 0 (omega arith) ∙ ap (λ k. get_or l k 0) (let d : b + 0 ≡ b = omega arith in d),
      h 1 (omega arith),
      h 2 (omega arith),
      h 3 (omega arith),
      h 4 (omega arith),
      h 5 (omega arith),
      h 6 (omega arith),
      h 7 (omega arith),
    )

pub word_put_other : (m : List ℕ) (at w k : ℕ) → Apart at k → word (put m at w) k ≡ word m k
word_put_other m at w k a =
    word_same (put m at w) m k k
    (λ i l. byte_put_other m at w (k + i) (⊎_elim (λ (e : at + 8 ≤ k). inr (omega arith)) (λ (e : k + 8 ≤ at). inl (omega arith)) a))

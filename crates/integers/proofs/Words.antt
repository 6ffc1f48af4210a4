-- Bytes and the number that they write, there and back. Assumes nothing.
use mathlib.Core.Path.{◌≡◌, refl, sym, ap, ap₂, ◌∙◌}
use mathlib.Core.List.{List, [], ◌∷◌, ◌++◌}
use Prim.Native.Nat.{ℕ, zero, suc, ◌+◌, ◌-◌, ◌*◌, ◌/◌, ◌%◌, ◌^◌, ◌≤◌, ◌<◌}
use native.Mathlib.Nat.{add-zero, zero-add, suc-add, pow-suc, mul_assoc, zero-mul, zero-div}
use native.Mathlib.Omega.{arith}
use lib.ListN.{length, get_or, take, drop, length-drop}
use lib.Pow.{pow-add, shr-shr, mod-pow-add}
use lib.Seq.{get_or-drop, length-take-le, take-nil, take-add, drop-drop}
use Rattle.integers.specs.Bytes.{word_of, word_bytes}

pub length-bytes : (n u : ℕ) → length (word_bytes n u) ≡ n
length-bytes zero u = refl
length-bytes (suc n) u = ap suc (length-bytes n (u / 256))

pub word-bytes : (n u : ℕ) → word_of (word_bytes n u) ≡ u % 2 ^ (8 * n)
word-bytes zero u = omega arith
word-bytes (suc n) u =
    let more : 8 * suc n ≡ 8 * n + 8 = omega arith in
    omega (arith, word-bytes n (u / 256), mod-pow-add u (8 * n) 8, ap (λ (k : ℕ). u % 2 ^ k) more)

pub bytes_word : (l : List ℕ) → ((i : ℕ) → get_or l i 0 < 256) → word_bytes (length l) (word_of l) ≡ l
bytes_word [] h = refl
bytes_word (b ∷ l) h =
    let a = h 0 in
    let e : (b + word_of l * 256) % 256 ≡ b = omega arith in
    let d : (b + word_of l * 256) / 256 ≡ word_of l = omega arith in
    rw (e, d) (ap (λ (t : List ℕ). b ∷ t) (bytes_word l (λ i. h (suc i))))

pub word_lt : (l : List ℕ) → ((i : ℕ) → get_or l i 0 < 256) → word_of l < 2 ^ (8 * length l)
word_lt [] h = omega arith
word_lt (b ∷ l) h =
    let more : 8 * suc (length l) ≡ 8 * length l + 8 = omega arith in
    omega (arith, h 0, word_lt l (λ i. h (suc i)), pow-add 2 (8 * length l) 8, ap (λ (k : ℕ). 2 ^ k) more)

-- ---- of a slice

pub front_bytes : (n : ℕ) (l : List ℕ) → ((i : ℕ) → get_or l i 0 < 256) → (i : ℕ) → get_or (take n l) i 0 < 256
front_bytes zero l h i = omega arith
front_bytes (suc n) [] h i = h i
front_bytes (suc n) (b ∷ l) h zero = h 0
front_bytes (suc n) (b ∷ l) h (suc i) = front_bytes n l (λ j. h (suc j)) i

number_more : (k : ℕ) (l : List ℕ) → word_of (take (suc k) l) ≡ word_of (take k l) + get_or l k 0 * 256 ^ k
number_more zero [] = refl
number_more zero (b ∷ rest) = omega arith
number_more (suc k) [] = omega (arith, zero-mul (256 ^ suc k))
number_more (suc k) (b ∷ rest) = omega (arith, number_more k rest, ap (λ (p : ℕ). get_or rest k 0 * p) (pow-suc 256 k), mul_assoc (get_or rest k 0) (256 ^ k) 256)

module _ (s : List ℕ) (i : ℕ) where
  -- the number of the k bytes from the place i on
  abbrev pub number_at : ℕ → ℕ
  number_at zero = 0
  number_at (suc zero) = get_or s i 0
  number_at (suc (suc k)) = number_at (suc k) + get_or s (i + suc k) 0 * 256 ^ suc k

  pub number-at : (k : ℕ) → word_of (take k (drop i s)) ≡ number_at k
  number-at zero = refl
  number-at (suc zero) = omega (arith, number_more 0 (drop i s), get_or-drop i s 0 0, ap (λ (n : ℕ). get_or s n 0) (add-zero i))
  number-at (suc (suc k)) = number_more (suc k) (drop i s) ∙ ap₂ (λ (p q : ℕ). p + q * 256 ^ suc k) (number-at (suc k)) (get_or-drop i s (suc k) 0)

-- ---- a shift drops bytes

word-drop : (j : ℕ) (l : List ℕ) → ((i : ℕ) → get_or l i 0 < 256) → word_of l / 2 ^ (8 * j) ≡ word_of (drop j l)
word-drop zero l h = omega arith
word-drop (suc j) [] h = omega (arith, zero-div (2 ^ (8 * suc j)))
word-drop (suc j) (b ∷ l) h =
    let more : 8 * suc j ≡ 8 + 8 * j = omega arith in
    let rest : (b + word_of l * 256) / 2 ^ 8 ≡ word_of l = omega (arith, h 0) in
    ap (λ (k : ℕ). (b + word_of l * 256) / 2 ^ k) more ∙ sym (shr-shr (b + word_of l * 256) 8 (8 * j)) ∙ ap (λ (w : ℕ). w / 2 ^ (8 * j)) rest ∙ word-drop j l (λ i. h (suc i))

word-append : (l m : List ℕ) → word_of (l ++ m) ≡ word_of l + word_of m * 256 ^ length l
word-append [] m = omega arith
word-append (b ∷ l) m = omega (arith, word-append l m, ap (λ (p : ℕ). word_of m * p) (pow-suc 256 (length l)), mul_assoc (word_of m) (256 ^ length l) 256)

drop-take : (j k : ℕ) (l : List ℕ) → drop j (take (j + k) l) ≡ take k (drop j l)
drop-take zero k l = ap (λ (n : ℕ). take n l) (zero-add k)
drop-take (suc j) k [] = ap (drop (suc j)) (take-nil (suc j + k)) ∙ sym (take-nil k)
drop-take (suc j) k (b ∷ l) = ap (λ (n : ℕ). drop (suc j) (take n (b ∷ l))) (suc-add j k) ∙ drop-take j k l

-- four to eight bytes: above the first four stand those of the last four that are left
pub first-and-last : (s : List ℕ) (i n : ℕ) → ((p : ℕ) → get_or s p 0 < 256) → 4 ≤ n → n ≤ 8 → i + 4 ≤ length s
    → word_of (take 4 (drop i s)) + word_of (take 4 (drop (i + n - 4) s)) / 2 ^ (64 - 8 * n) * 2 ^ 32 ≡ word_of (take n (drop i s))
first-and-last s i n small h g fits =
    let twice = 8 - n in
    let left = n - 4 in
    let bits : 64 - 8 * n ≡ 8 * twice = omega arith in
    let last : 4 ≡ twice + left = omega arith in
    let all : n ≡ 4 + left = omega arith in
    let passed : i + n - 4 + twice ≡ i + 4 = omega arith in
    let l = drop (i + n - 4) s in
    let small-last : (p : ℕ) → get_or (take 4 l) p 0 < 256 = front_bytes 4 l (λ p. rw get_or-drop (small (i + n - 4 + p))) in
    let rest : word_of (take 4 l) / 2 ^ (64 - 8 * n) ≡ word_of (take left (drop (i + 4) s)) =
    ap (λ (k : ℕ). word_of (take 4 l) / 2 ^ k) bits ∙ word-drop twice (take 4 l) small-last
    ∙ ap (λ (k : ℕ). word_of (drop twice (take k l))) last
    ∙ ap word_of (drop-take twice left l ∙ ap (take left) (drop-drop twice (i + n - 4) s ∙ ap (λ (k : ℕ). drop k s) passed)) in
    let four : length (take 4 (drop i s)) ≡ 4 = length-take-le 4 (drop i s) (simp length-drop (omega arith)) in
    ap (λ (w : ℕ). word_of (take 4 (drop i s)) + w * 2 ^ 32) rest
    ∙ sym (ap (λ (k : ℕ). word_of (take k (drop i s))) all
    ∙ ap word_of (take-add 4 left (drop i s))
    ∙ word-append (take 4 (drop i s)) (take left (drop 4 (drop i s)))
    ∙ ap₂ (λ (k : ℕ) (m : List ℕ). word_of (take 4 (drop i s)) + word_of (take left m) * 256 ^ k) four (drop-drop 4 i s))

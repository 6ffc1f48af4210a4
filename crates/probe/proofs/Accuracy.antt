-- TEMP is accurate to 12 steps: what rounding the entries, the chord between two of them and rounding TEMP put it off is less than the
-- formula rises in 12 steps, 0.00007 ohm. They are, in ohms: 0.00005; 0.000015, below 0 °C 0.000018; 0.000003. Assumes nothing.
use mathlib.Core.Path.{◌≡◌, refl, ◌∙◌, ap}
use mathlib.Core.Bool.{Bool, true, false, ◌&&◌, true≢false}
use mathlib.Core.List.{[], ◌∷◌}
use mathlib.Core.Logic.{⊎_elim}
use Prim.Native.Nat.{ℕ, zero, suc, ◌+◌, ◌*◌, ◌-◌, ◌^◌, ◌<◌, ◌≤◌}
use native.Mathlib.Omega.{arith}
use native.Mathlib.Nat.{mul-le-mul, mul-le-mul_left}
use lib.Dec.{T}
use lib.IntN.{ℤ, pos, negsuc, neg_ℤ, nat_abs, ◌+ℤ◌, ◌-ℤ◌, ◌*ℤ◌}
use lib.Signed.{le_z, le_z_yes, lt_z_yes, ◌≤ℤ◌, ◌<ℤ◌, <ℤ-≤ℤ_trans}
use Rattle.integers.proofs.Parts.{neg_part, neg-neg-part, le_parts, lt-parts, eq-parts, ints}
use Rattle.integers.proofs.Difference.{Difference, ⟨◌⟩, ◌⊕◌, ◌⊝◌, ◌⊗◌, nat, minus, le!, lt!, eq!, le?, abs-above, abs-below}
use Rattle.integers.proofs.Order.{yes_lt, no_lt, ≤-or->, ≤-unless, ≤-antisym, product, mul-pos, gap-pos, <-≤}
use Rattle.integers.proofs.Machine.{and_left, and_right}
use Rattle.integers.proofs.Magnitude.{abs-mul, abs_neg, abs-sum3, abs-gap}
use Rattle.integers.proofs.Ring.{ring, polynomials}
use Rattle.arithmetic.specs.Round.{round_div, round_magnitude}
use Rattle.arithmetic.proofs.Round.{round-near, round-at-least, round-at-most}
use Rattle.probe.specs.Platinum.{quadratic, formula, entry, degree}
use Rattle.probe.specs.Probe.{is_beyond, temp_of}
use Rattle.probe.specs.Accuracy.{Close, Accuracy}
use Rattle.probe.specs.Pt100.{celsius}
use Rattle.probe.proofs.Table.{temp-first, temp-between}

-- ---- its two parts, on either side of 0 °C: `fourth` is taken off at a ÷ u °C below 0

abbrev fourth : ℤ → ℤ → ℤ
fourth u a = pos 4183 *ℤ (a +ℤ pos 100 *ℤ u) *ℤ (a *ℤ a *ℤ a)

formula-is : (u : ℕ) (t : ℤ) → formula (pos u) t ≡ quadratic (pos u) t -ℤ fourth (pos u) (pos (neg_part t))
unfolding formula
formula-is u (pos n) = let none : 0 ≡ 4183 * (0 + 100 * u) * 0 = omega arith in ap (λ (z : ℕ). quadratic (pos u) (pos n) -ℤ pos z) none
formula-is u (negsuc n) = ap (λ (z : ℤ). quadratic (pos u) (negsuc n) -ℤ z) (turned (pos u) (pos (suc n)))
  where
    turned : (u a : ℤ) → pos 4183 *ℤ (neg_ℤ a -ℤ pos 100 *ℤ u) *ℤ (neg_ℤ a *ℤ neg_ℤ a *ℤ neg_ℤ a) ≡ fourth u a
    turned u a = ring (u ∷ a ∷ []) (search polynomials depth 20 fits 9000) refl

-- ---- it rises, at least as the quadratic part does, for what is taken off falls

falls : {s t : ℤ} → s ≤ℤ t → neg_part t ≤ neg_part s
falls {s} {t = pos n} h = omega arith
falls {s} {t = negsuc n} h = omega (arith, le_parts h)

abbrev gain : ℤ → ℤ → ℤ → ℤ
gain u t d = d *ℤ (u *ℤ u) *ℤ (pos 3908300000000 *ℤ u -ℤ pos 577500000 *ℤ (pos 2 *ℤ t +ℤ d))

gains : (u : ℕ) (t d : ℤ) → pos 0 ≤ℤ d → (formula (pos u) t +ℤ gain (pos u) t d) ≤ℤ formula (pos u) (t +ℤ d)
gains u t d h =
    let f = falls (le! ⟨ t ⟩ (⟨ t ⟩ ⊕ ⟨ d ⟩) (omega (arith, le_parts h))) in
    let cubes = mul-le-mul (mul-le-mul f f) f in
    let Q = ⟨ quadratic (pos u) t ⟩ in
    let G = ⟨ gain (pos u) t d ⟩ in
    rw (formula-is u t, formula-is u (t +ℤ d), factored (pos u) t d)
    (le! (Q ⊝ ⟨ fourth (pos u) (pos (neg_part t)) ⟩ ⊕ G) (Q ⊕ G ⊝ ⟨ fourth (pos u) (pos (neg_part (t +ℤ d))) ⟩) (omega (arith, mul-le-mul f cubes, mul-le-mul_left u cubes)))
  where
    factored : (u t d : ℤ) → quadratic u (t +ℤ d) ≡ quadratic u t +ℤ gain u t d
    factored u t d = ring (u ∷ t ∷ d ∷ []) (search polynomials depth 20 fits 9000) refl

rises : (u s t : ℤ) → pos 0 <ℤ u → s <ℤ t → t ≤ℤ (pos 151 *ℤ u) → formula u s <ℤ formula u t
rises (negsuc u) s t p h l = absurd p.lt
rises (pos u) s t p h l =
    let F = ⟨ formula (pos u) s ⟩ in
    let to : s +ℤ (t -ℤ s) ≡ t = eq! (⟨ s ⟩ ⊕ (⟨ t ⟩ ⊝ ⟨ s ⟩)) ⟨ t ⟩ (omega arith) in
    let slope = lt! (nat 0) (nat 3908300000000 ⊗ nat u ⊝ nat 577500000 ⊗ (nat 2 ⊗ ⟨ s ⟩ ⊕ (⟨ t ⟩ ⊝ ⟨ s ⟩))) (omega (arith, le? ⟨ t ⟩ (nat 151 ⊗ nat u) l, lt-parts h, lt-parts p)) in
    let above = lt-parts (mul-pos (mul-pos (gap-pos h) (mul-pos p p)) slope) in
    lt! F ⟨ _ ⟩ (omega (arith, above, le? (F ⊕ ⟨ gain (pos u) s (t -ℤ s) ⟩) ⟨ _ ⟩ (rw to at (gains u s (t -ℤ s) (<-≤ (gap-pos h))))))

-- ---- s steps past k °C, and x before the next, it lies above the mean of the two values, so weighted; below 0 °C by `bend` more

abbrev mean : ℤ → ℕ → ℕ → ℤ
mean k s x = pos x *ℤ formula (pos 1) k +ℤ pos s *ℤ formula (pos 1) (k +ℤ pos 1)

abbrev bend : ℤ → ℤ → ℤ → ℤ
bend n u x = pos 6 *ℤ (n *ℤ n) *ℤ (u *ℤ u) +ℤ pos 4 *ℤ n *ℤ u *ℤ (u +ℤ x) +ℤ u *ℤ u +ℤ u *ℤ x +ℤ x *ℤ x +ℤ pos 100 *ℤ u *ℤ (pos 3 *ℤ n *ℤ u +ℤ u +ℤ x)

bend-most : (n x : ℕ) → n ≤ 49 → x ≤ 65536 → nat_abs (bend (pos n) degree (pos x)) ≤ 30000 * 65536 ^ 2
bend-most n x f g = omega (arith, mul-le-mul f f, mul-le-mul f g, mul-le-mul g g)

module _ (s x : ℕ) (full : s + x ≡ 65536) where
  rest : pos x ≡ degree -ℤ pos s
  rest = eq! (nat x) (nat 65536 ⊝ nat s) (omega arith)

  square : 4 * (s * x) ≤ 65536 ^ 2
  square = let e = ap (λ (z : ℕ). z * z) full in ⊎_elim (λ h. omega (ints, e, product (le_parts h) (le_parts h))) (λ h. omega (ints, e, product (lt-parts h) (lt-parts h))) (≤-or-> (pos s) (pos x))

  bow-above-zero : (i : ℕ) → degree *ℤ formula degree (pos i *ℤ degree +ℤ pos s) ≡ pos (65536 ^ 4) *ℤ mean (pos i) s x +ℤ pos (577500000 * 65536 ^ 3 * (s * x))
  bow-above-zero i = rw (formula-is 65536 (pos i *ℤ degree +ℤ pos s), formula-is 1 (pos i), formula-is 1 (pos i +ℤ pos 1)) (by (pos i) (pos s) degree rest)
    where
      by : (k s u : ℤ) {x : ℤ} → x ≡ u -ℤ s → u *ℤ (quadratic u (k *ℤ u +ℤ s) -ℤ pos 0)
          ≡ u *ℤ u *ℤ u *ℤ u *ℤ (x *ℤ (quadratic (pos 1) k -ℤ pos 0) +ℤ s *ℤ (quadratic (pos 1) (k +ℤ pos 1) -ℤ pos 0)) +ℤ pos 577500000 *ℤ (u *ℤ u *ℤ u) *ℤ (s *ℤ x)
      by k s u e = rw e (ring (k ∷ s ∷ u ∷ []) (search polynomials depth 20 fits 9000) refl)

  bow-below-zero : (n : ℕ) → degree *ℤ formula degree (negsuc n *ℤ degree +ℤ pos s)
      ≡ pos (65536 ^ 4) *ℤ mean (negsuc n) s x +ℤ pos (577500000 * 65536 ^ 3 * (s * x) + 4183 * 65536 * (s * x * nat_abs (bend (pos n) degree (pos x))))
  bow-below-zero n =
      let here = ap neg_part (eq! (⟨ negsuc n ⟩ ⊗ nat 65536 ⊕ nat s) (minus (nat (n * 65536 + x))) (omega arith)) ∙ neg-neg-part (pos (n * 65536 + x)) in
      let next = ap neg_part (eq! (⟨ negsuc n ⟩ ⊕ nat 1) (minus (nat n)) (omega arith)) ∙ neg-neg-part (pos n) in
      rw (formula-is 65536 (negsuc n *ℤ degree +ℤ pos s), formula-is 1 (negsuc n), formula-is 1 (negsuc n +ℤ pos 1), here, next)
      (by (pos (suc n)) (pos s) degree (eq! (nat n) (nat (suc n) ⊝ nat 1) (omega arith)) rest)
    where
      by : (m s u : ℤ) {n x : ℤ} → n ≡ m -ℤ pos 1 → x ≡ u -ℤ s → let k = neg_ℤ m in u *ℤ (quadratic u (k *ℤ u +ℤ s) -ℤ fourth u (n *ℤ u +ℤ x))
          ≡ u *ℤ u *ℤ u *ℤ u *ℤ (x *ℤ (quadratic (pos 1) k -ℤ fourth (pos 1) m) +ℤ s *ℤ (quadratic (pos 1) (k +ℤ pos 1) -ℤ fourth (pos 1) n))
          +ℤ (pos 577500000 *ℤ (u *ℤ u *ℤ u) *ℤ (s *ℤ x) +ℤ pos 4183 *ℤ u *ℤ (s *ℤ x *ℤ bend n u x))
      by m s u e f = rw (e, f) (ring (m ∷ s ∷ u ∷ []) (search polynomials depth 20 fits 9000) refl)

-- ---- 12 steps are enough: in them the formula rises by more than it lies above the mean and the resistance lies off it

abbrev off : ℤ → ℤ → ℤ → ℤ
off k r v = v *ℤ (entry (k +ℤ pos 1) -ℤ entry k) -ℤ degree *ℤ (r -ℤ entry k)

abbrev climb : {t : ℤ} → Difference t → Difference (gain degree t (pos 12))
climb T = nat 12 ⊗ nat (65536 ^ 2) ⊗ (nat 3908300000000 ⊗ nat 65536 ⊝ nat 577500000 ⊗ (nat 2 ⊗ T ⊕ nat 12))

module _ (k : ℤ) (s x : ℕ) (r : ℤ) (full : s + x ≡ 65536) (near : nat_abs (off k r (pos s)) ≤ 2000) where
  -- half a unit for the entries, and half a step of TEMP
  mean-near : nat_abs (pos (10 ^ 9) *ℤ degree *ℤ r -ℤ mean k s x) ≤ 34768 * 10 ^ 9
  unfolding entry
  mean-near =
      let f₁ = formula (pos 1) k in
      let f₂ = formula (pos 1) (k +ℤ pos 1) in
      let c = pos (10 ^ 9) in
      omega (arith, split c degree (entry k) (entry (k +ℤ pos 1)) f₁ f₂ r (pos s) (rest s x full), mul-le-mul_left x (round-near f₁ c (lt_z_yes tt)), mul-le-mul_left s (round-near f₂ c (lt_z_yes tt)))
    where
      split : (c u e₁ e₂ f₁ f₂ r s : ℤ) {x : ℤ} → x ≡ u -ℤ s
          → nat_abs (c *ℤ u *ℤ r -ℤ (x *ℤ f₁ +ℤ s *ℤ f₂)) ≤ nat_abs x * nat_abs (e₁ *ℤ c -ℤ f₁) + nat_abs s * nat_abs (e₂ *ℤ c -ℤ f₂) + nat_abs c * nat_abs (s *ℤ (e₂ -ℤ e₁) -ℤ u *ℤ (r -ℤ e₁))
      split c u e₁ e₂ f₁ f₂ r s {x} e = simp (abs-mul, abs_neg) at (abs-sum3 {x = c *ℤ u *ℤ r -ℤ (x *ℤ f₁ +ℤ s *ℤ f₂)} (x *ℤ (e₁ *ℤ c -ℤ f₁)) (s *ℤ (e₂ *ℤ c -ℤ f₂))
          (c *ℤ neg_ℤ (s *ℤ (e₂ -ℤ e₁) -ℤ u *ℤ (r -ℤ e₁))) (rw e (ring (c ∷ u ∷ e₁ ∷ e₂ ∷ f₁ ∷ f₂ ∷ r ∷ s ∷ []) (search polynomials depth 20 fits 9000) refl)))

  -- the formula lies z above the mean
  close : (z : ℕ) → let t = k *ℤ degree +ℤ pos s in degree *ℤ formula degree t ≡ pos (65536 ^ 4) *ℤ mean k s x +ℤ pos z
      → pos (34768 * 10 ^ 9 * 65536 ^ 4 + z) ≤ℤ (degree *ℤ gain degree t (pos 12)) → Close r t
  close z is enough =
      let t = k *ℤ degree +ℤ pos s in
      let F = ⟨ formula degree t ⟩ in
      let R = ⟨ r ⟩ ⊗ nat (10 ^ 9) ⊗ nat (65536 ^ 4) in
      let D = nat (10 ^ 9) ⊗ nat 65536 ⊗ ⟨ r ⟩ ⊝ ⟨ mean k s x ⟩ in
      let left = (nat 65536 ⊗ F).is in
      let right = (nat (65536 ^ 4) ⊗ ⟨ mean k s x ⟩ ⊕ nat z).is in
      let most = le? (nat (34768 * 10 ^ 9 * 65536 ^ 4 + z)) (nat 65536 ⊗ climb ⟨ t ⟩) enough in
      let back : t -ℤ pos 12 +ℤ pos 12 ≡ t = eq! (⟨ t ⟩ ⊝ nat 12 ⊕ nat 12) ⟨ t ⟩ (omega arith) in
      let below = le? (⟨ formula degree (t -ℤ pos 12) ⟩ ⊕ climb (⟨ t ⟩ ⊝ nat 12)) F (rw back at (gains 65536 (t -ℤ pos 12) (pos 12) (le_z_yes tt))) in
      let above = le? (F ⊕ climb ⟨ t ⟩) ⟨ _ ⟩ (gains 65536 t (pos 12) (le_z_yes tt)) in
      record { below = le! ⟨ _ ⟩ R (omega (arith, eq-parts is, abs-below D, mean-near)); above = le! R ⟨ _ ⟩ (omega (arith, eq-parts is, abs-above D, mean-near)) }

close_at : (k : ℤ) (s x : ℕ) (r : ℤ) → neg_ℤ (pos 50) ≤ℤ k → k <ℤ pos 150 → s + x ≡ 65536 → nat_abs (off k r (pos s)) ≤ 2000 → Close r (k *ℤ degree +ℤ pos s)
close_at (pos i) s x r l u full h =
    close (pos i) s x r full h _ (bow-above-zero s x full i) (le! (nat _) (nat 65536 ⊗ climb (nat i ⊗ nat 65536 ⊕ nat s)) (omega (arith, lt-parts u, square s x full)))
close_at (negsuc n) s x r l u full h =
    let bent = mul-le-mul_left (s * x) (bend-most n x (omega (arith, le_parts l)) (omega arith)) in
    close (negsuc n) s x r full h _ (bow-below-zero s x full n) (le! (nat _) (nat 65536 ⊗ climb (⟨ negsuc n ⟩ ⊗ nat 65536 ⊕ nat s)) (omega (arith, square s x full, bent)))

-- ---- TEMP: at the first entry, and on the line between two

first : {r : ℤ} → pos 803063 ≤ℤ r → r ≤ℤ entry (celsius 0) → Close r (celsius 0 *ℤ degree)
unfolding entry formula round_div round_magnitude
first g h = let e = ≤-antisym h g in rw e (close_at (celsius 0) 0 65536 (pos 803063) (le_z_yes tt) (lt_z_yes tt) refl (omega arith))

on_line : (k r v : ℤ) → neg_ℤ (pos 50) ≤ℤ k → k <ℤ pos 150 → pos 0 ≤ℤ v → v ≤ℤ degree → nat_abs (off k r v) ≤ 2000 → Close r (k *ℤ degree +ℤ v)
on_line k r (pos s) l u g h near = close_at k s (65536 - s) r l u (omega (arith, le_parts h)) near
on_line k r (negsuc s) l u g h near = absurd g.le

inside : (j : ℕ) {r : ℤ} → j < 200 → entry (celsius j) <ℤ r → r ≤ℤ entry (celsius (suc j)) → entry (celsius (suc j)) ≤ℤ (entry (celsius j) +ℤ pos 4000) → Close r (temp_of r)
inside j {r} l after upto near =
    let k = celsius j in
    let e₁ = entry k in
    let e₂ = entry (celsius (suc j)) in
    let a = degree *ℤ (r -ℤ e₁) in
    let rise = gap-pos (<ℤ-≤ℤ_trans after upto) in
    let next : celsius (suc j) ≡ k +ℤ pos 1 = eq! (nat (suc j) ⊝ nat 50) (nat j ⊝ nat 50 ⊕ nat 1) (omega arith) in
    let step : k *ℤ degree +ℤ degree -ℤ k *ℤ degree ≡ degree = eq! (⟨ k *ℤ degree ⟩ ⊕ nat 65536 ⊝ ⟨ k *ℤ degree ⟩) (nat 65536) (omega arith) in
    rw (temp-between j (suc j) refl (omega arith) after upto, step)
    (on_line k r (round_div a (e₂ -ℤ e₁)) (le! (minus (nat 50)) (nat j ⊝ nat 50) (omega arith)) (lt! (nat j ⊝ nat 50) (nat 150) (omega arith))
    (round-at-least a (pos 0) (e₂ -ℤ e₁) rise (le! (nat 0 ⊗ (⟨ e₂ ⟩ ⊝ ⟨ e₁ ⟩)) (nat 65536 ⊗ (⟨ r ⟩ ⊝ ⟨ e₁ ⟩)) (omega (arith, lt-parts after))))
    (round-at-most a degree (e₂ -ℤ e₁) rise (le! (nat 65536 ⊗ (⟨ r ⟩ ⊝ ⟨ e₁ ⟩)) (nat 65536 ⊗ (⟨ e₂ ⟩ ⊝ ⟨ e₁ ⟩)) (omega (arith, le_parts upto))))
    (rw (← next) (omega (arith, round-near a (e₂ -ℤ e₁) rise, abs-gap (<-≤ (<ℤ-≤ℤ_trans after upto)), le? ⟨ e₂ ⟩ (⟨ e₁ ⟩ ⊕ nat 4000) near))))

-- entries differ by 4,000 at most: 0.4 ohm
narrow : ℕ → Bool
narrow zero = true
narrow (suc j) = le_z (entry (celsius (suc j))) (entry (celsius j) +ℤ pos 4000) && narrow j

-- a resistance up to the entry at m is the first, or lies between two
walk : (m : ℕ) {r : ℤ} → m ≤ 200 → T (narrow m) → pos 803063 ≤ℤ r → r ≤ℤ entry (celsius m) → Close r (temp_of r)
unfolding narrow
walk zero {r} l n g h = rw (temp-first r h) (first g h)
walk (suc j) {r} l n g h =
    let last = le_z (entry (celsius (suc j))) (entry (celsius j) +ℤ pos 4000) in
    ⊎_elim (walk j (omega arith) (and_right last (narrow j) n) g) (λ after. inside j (omega arith) after h (le_z_yes (and_left last (narrow j) n))) (≤-or-> r (entry (celsius j)))

accepted : (r : ℤ) → is_beyond r ≡ false → Close r (temp_of r)
unfolding is_beyond entry formula round_div round_magnitude narrow
accepted r h =
    let least = ≤-unless (pos 803063) r (λ k. true≢false (rw (yes_lt k) at h)) in
    walk 200 (omega arith) tt least (≤-unless r (pos 1573251) (λ k. true≢false (rw (no_lt least, yes_lt k) at h)))

pub accuracy : Accuracy
accuracy = record { rises = rises; close = accepted }

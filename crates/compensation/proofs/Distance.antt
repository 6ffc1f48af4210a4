-- How the steps of a reading keep the distance from the exact value, in 1/32 of a step: a gain, the gain adjustment, and the
-- correction. Of rounding they use `round-near` alone. Assumes nothing.
use mathlib.Core.Path.{◌≡◌, refl}
use mathlib.Core.List.{List, [], ◌∷◌}
use Prim.Native.Nat.{ℕ, ◌+◌, ◌*◌, ◌≤◌}
use native.Mathlib.Omega.{arith}
use native.Mathlib.Nat.{mul-le-mul_right, mul-le-mul_left, le_of_mul-le-mul_right}
use lib.IntN.{ℤ, pos, nat_abs, ◌+ℤ◌, ◌-ℤ◌, ◌*ℤ◌}
use lib.Signed.{◌<ℤ◌}
use Rattle.integers.proofs.Order.{mul-pos}
use Rattle.integers.proofs.Magnitude.{abs-add, abs-mul, abs-pos, abs-sum2, abs-sum3}
use Rattle.integers.proofs.Ring.{ring, polynomials}
use Rattle.arithmetic.specs.Round.{round_div}
use Rattle.arithmetic.specs.Fraction.{Fraction, ◌over◌, whole, ◌+F◌, ◌*F◌, ◌/F◌, Near}
use Rattle.arithmetic.specs.Table.{Point, interpolated, interpolated_f}
use Rattle.arithmetic.specs.Keeps.{Gentle, Rising}
use Rattle.arithmetic.proofs.Round.{round-near}
use Rattle.arithmetic.proofs.Near.{one-pos}
use Rattle.arithmetic.proofs.Exact.{exact_above, interpolated-near}
use Rattle.arithmetic.proofs.Slope.{exact-slope}

-- ---- a gain: round(a·G ÷ S), for |G| ≤ n·S

gain-distance : (a G S r t l : ℤ) → r *ℤ (l *ℤ pos 1 *ℤ S) -ℤ t *ℤ G ≡ l *ℤ (r *ℤ S -ℤ a *ℤ G) +ℤ G *ℤ (a *ℤ l -ℤ t)
gain-distance a G S r t l = ring (a ∷ G ∷ S ∷ r ∷ t ∷ l ∷ []) (search polynomials depth 20 fits 9000) refl

pub near-gain : {k : ℕ} {a : ℤ} {q : Fraction} (n : ℕ) (G S : ℤ) → pos 0 <ℤ S → nat_abs G ≤ n * nat_abs S → Near k 32 a q → Near (16 + n * k) 32 (round_div (a *ℤ G) S) (q *F whole G /F S)
near-gain {k} {a} {q} n G S h_s h_g h = record {
  above = mul-pos (mul-pos h.above one-pos) h_s;
  near =
      let r = round_div (a *ℤ G) S in
      let s = simp abs-mul at (abs-sum2 (q.low *ℤ (r *ℤ S -ℤ a *ℤ G)) (G *ℤ (a *ℤ q.low -ℤ q.top)) (gain-distance a G S r q.top q.low)) in
      simp abs-mul (omega (
        arith,
        s,
        mul-le-mul_left (nat_abs q.low) (round-near (a *ℤ G) S h_s),
        mul-le-mul_left (nat_abs G) h.near,
        mul-le-mul_right (k * nat_abs q.low) h_g,
      ));
}

-- ---- the gain adjustment: round(y·(S + g) ÷ S), for |y| ≤ 155/16·S and |g| at most a tenth of S

adjust-distance : (S r y g ty ly tg lg : ℤ) → r *ℤ (ly *ℤ (pos 1 *ℤ lg) *ℤ S) -ℤ ty *ℤ (S *ℤ lg +ℤ tg *ℤ pos 1)
    ≡ ly *ℤ lg *ℤ (r *ℤ S -ℤ y *ℤ (S +ℤ g)) +ℤ (y *ℤ ly -ℤ ty) *ℤ (S *ℤ lg +ℤ tg) +ℤ y *ℤ ly *ℤ (g *ℤ lg -ℤ tg)
adjust-distance S r y g ty ly tg lg = ring (S ∷ r ∷ y ∷ g ∷ ty ∷ ly ∷ tg ∷ lg ∷ []) (search polynomials depth 20 fits 9000) refl

pub near-adjust : {y g : ℤ} {qy qg : Fraction} (S : ℤ) → pos 0 <ℤ S → 16 * nat_abs y ≤ 155 * nat_abs S → 10 * nat_abs qg.top ≤ nat_abs S * nat_abs qg.low
    → Near 1040 32 y qy → Near 16 32 g qg → Near 1315 32 (round_div (y *ℤ (S +ℤ g)) S) (qy *F (whole S +F qg) /F S)
near-adjust {y} {g} {qy} {qg} S h_s hy hg h k = record {
  above = mul-pos (mul-pos h.above (mul-pos one-pos k.above)) h_s;
  near =
      let r = round_div (y *ℤ (S +ℤ g)) S in
      let d = nat_abs qy.low in
      let e = nat_abs qg.low in
      let s = simp abs-mul at (abs-sum3 (qy.low *ℤ qg.low *ℤ (r *ℤ S -ℤ y *ℤ (S +ℤ g))) ((y *ℤ qy.low -ℤ qy.top) *ℤ (S *ℤ qg.low +ℤ qg.top)) (y *ℤ qy.low *ℤ (g *ℤ qg.low -ℤ qg.top))
      (adjust-distance S r y g qy.top qy.low qg.top qg.low)) in
      let m = simp abs-mul at (abs-add (S *ℤ qg.low) qg.top) in
      simp abs-mul (omega (
        arith,
        s,
        mul-le-mul_left (d * e) (round-near (y *ℤ (S +ℤ g)) S h_s),
        mul-le-mul_right (nat_abs (S *ℤ qg.low +ℤ qg.top)) h.near,
        mul-le-mul_left d m,
        mul-le-mul_left d hg,
        mul-le-mul_left (nat_abs y * d) k.near,
        mul-le-mul_right (d * e) hy,
      ));
}

-- ---- a value and its correction: 1315 becomes 1315·5/4 + 16, rounded up

correct-distance : (x a m k p q r s : ℤ) → ((x +ℤ k) *ℤ (m *ℤ q) -ℤ (a *ℤ q +ℤ p *ℤ m)) *ℤ s ≡ s *ℤ q *ℤ (x *ℤ m -ℤ a) +ℤ m *ℤ q *ℤ (k *ℤ s -ℤ r) +ℤ m *ℤ (r *ℤ q -ℤ p *ℤ s)
correct-distance x a m k p q r s = ring (x ∷ a ∷ m ∷ k ∷ p ∷ q ∷ r ∷ s ∷ []) (search polynomials depth 20 fits 9000) refl

pub near-correct : {x : ℤ} {f : Fraction} (j : ℕ) (table : List Point) → Rising table → Gentle j table → Near 1315 32 x f → Near 1660 32 (x +ℤ interpolated j table x) (f +F interpolated_f j table f)
near-correct {x} {f} j table rise gentle h =
    let a = f.top in
    let m = f.low in
    let k = interpolated j table x in
    -- the exact correction at the exact value, and at x
    let e = interpolated_f j table (a over m) in
    let w = interpolated_f j table ((x *ℤ m) over m) in
    let n = interpolated-near j table x m h.above rise in
    let t = exact-slope j table m a (x *ℤ m) h.above rise gentle in
    let s = simp abs-mul at (abs-sum3 (w.low *ℤ e.low *ℤ (x *ℤ m -ℤ a)) (m *ℤ e.low *ℤ (k *ℤ w.low -ℤ w.top)) (m *ℤ (w.top *ℤ e.low -ℤ e.top *ℤ w.low)) (correct-distance x a m k e.top e.low w.top w.low)) in
    record {
      above = mul-pos h.above (exact_above j table f h.above rise);
      near = le_of_mul-le-mul_right {k = nat_abs w.low}
          (simp abs-mul (omega (
            arith,
            s,
            mul-le-mul_right (nat_abs w.low * nat_abs e.low) h.near,
            mul-le-mul_right (nat_abs m * nat_abs e.low) n.near,
            t.slope,
          ))) (abs-pos n.above);
    }

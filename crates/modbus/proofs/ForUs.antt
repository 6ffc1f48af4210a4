-- `to_us` and `for_us` are what specs/Order.antt says of a frame that is for us. Assumes nothing.
use mathlib.Core.Path.{◌≡◌, refl, sym, ap, ap₂, ◌∙◌, subst}
use mathlib.Core.Logic.{◌↔◌}
use mathlib.Core.Bool.{Bool, true, false, cond, not, ◌&&◌, false≢true}
use mathlib.Core.List.{List, [], ◌∷◌, ◌++◌}
use Prim.Native.Nat.{ℕ, suc, ◌+◌, ◌-◌, ◌*◌, ◌≤◌}
use native.Mathlib.Omega.{arith}
use borrow.Author.Tests.{leb-true, eqb-true, eqb-false, le-leb, eq-eqb, ne_eqb}
use lib.Dec.{eqb, leb}
use lib.ListN.{length, length-append, take}
use lib.Seq.{take-length, take-add, drop-cons, take_at, get_or-append-add}
use Rattle.checksum.specs.Checksum.{checksum_of}
use Rattle.integers.specs.Bytes.{byte_at}
use Rattle.modbus.specs.Frame.{station_of, function_of, checked, to_us, for_us}
use Rattle.modbus.specs.Order.{ToUs, ours, to_all, RightChecksum, ForUs}

-- ---- the station

pub is_to_us : (receiver function station : ℕ) → (to_us receiver function station ≡ true) ↔ ToUs receiver function station
unfolding to_us
is_to_us receiver function station = (by (eqb receiver 0) (eqb function 3) refl refl, back)
  where
    by : (a b : Bool) → eqb receiver 0 ≡ a → eqb function 3 ≡ b → cond a (not b) (eqb receiver station) ≡ true → ToUs receiver function station
    by true true p q h = absurd (false≢true h)
    by true false p q h = to_all (eqb-true receiver 0 p) (eqb-false function 3 q)
    by false b p q h = ours (eqb-false receiver 0 p) (eqb-true receiver station h)

    back : ToUs receiver function station → cond (eqb receiver 0) (not (eqb function 3)) (eqb receiver station) ≡ true
    back (ours other is) = rw (ne_eqb receiver 0 other) (eq-eqb receiver station is)
    back (to_all is other) = rw (eq-eqb receiver 0 is, ne_eqb function 3 other) refl

-- ---- the checksum

split : (s : List ℕ) (m : ℕ) → length s ≡ m + 2 → s ≡ take m s ++ (byte_at s m ∷ byte_at s (suc m) ∷ [])
split s m e =
    sym (take-length s) ∙ ap (λ (n : ℕ). take n s) e ∙ take-add m 2 s ∙ ap (λ (l : List ℕ). take m s ++ take 2 l) (drop-cons s m 0 (omega arith) ∙ ap (λ (l : List ℕ). byte_at s m ∷ l) (drop-cons s (suc m) 0 (omega arith)))

right : (s : List ℕ) → 4 ≤ length s → checked s ≡ true → RightChecksum s
unfolding checked
right s h c = record {
  front = take (length s - 2) s;
  low = byte_at s (length s - 2);
  high = byte_at s (length s - 1);
  is = subst (λ (n : ℕ). s ≡ take (length s - 2) s ++ (byte_at s (length s - 2) ∷ byte_at s n ∷ [])) (omega arith) (split s (length s - 2) (omega arith));
  right = omega (arith, eqb-true (checksum_of (take (length s - 2) s)) _ c);
}

check : (s : List ℕ) → RightChecksum s → checked s ≡ true
unfolding checked
check s r =
    let size : length s ≡ length r.front + 2 = ap length r.is ∙ length-append r.front (r.low ∷ r.high ∷ []) in
    let ends = r.low ∷ r.high ∷ [] in
    let front : take (length s - 2) s ≡ r.front = ap (take (length s - 2)) r.is ∙ take_at r.front ends (length s - 2) (omega (arith, size)) in
    let at_low : length s - 2 ≡ length r.front + 0 = omega (arith, size) in
    let at_high : length s - 1 ≡ length r.front + 1 = omega (arith, size) in
    let low : byte_at s (length s - 2) ≡ r.low = ap₂ byte_at r.is at_low ∙ get_or-append-add r.front ends 0 0 in
    let high : byte_at s (length s - 1) ≡ r.high = ap₂ byte_at r.is at_high ∙ get_or-append-add r.front ends 1 0 in
    eq-eqb _ _ (ap checksum_of front ∙ r.right ∙ sum r.low r.high ∙ sym (ap₂ (λ (p q : ℕ). p * 256 + q) high low))
  where
    sum : (p q : ℕ) → p + 256 * q ≡ q * 256 + p
    sum p q = omega arith

-- ---- all of it

all-four : (a b c d : Bool) → a && b && c && d ≡ true → (a ≡ true) × (b ≡ true) × (c ≡ true) × (d ≡ true)
all-four true true true true e = (refl, refl, refl, refl)
all-four true true true false e = absurd (false≢true e)
all-four true true false d e = absurd (false≢true e)
all-four true false c d e = absurd (false≢true e)
all-four false b c d e = absurd (false≢true e)

pub is_for_us : (s : List ℕ) (station : ℕ) → (for_us s station ≡ true) ↔ ForUs s station
unfolding for_us
is_for_us s station = (there, back)
  where
    there : leb 4 (length s) && leb (length s) 256 && to_us (station_of s) (function_of s) station && checked s ≡ true → ForUs s station
    there h =
        let t = all-four (leb 4 (length s)) (leb (length s) 256) (to_us (station_of s) (function_of s) station) (checked s) h in
        record {
          least = leb-true 4 (length s) t.0;
          most = leb-true (length s) 256 t.1;
          checksum = right s (leb-true 4 (length s) t.0) t.3;
          is_to_us = (is_to_us (station_of s) (function_of s) station).0 t.2;
        }

    back : ForUs s station → leb 4 (length s) && leb (length s) 256 && to_us (station_of s) (function_of s) station && checked s ≡ true
    back h = rw (le-leb 4 (length s) h.least, le-leb (length s) 256 h.most, (is_to_us (station_of s) (function_of s) station).1 h.is_to_us, check s h.checksum) refl

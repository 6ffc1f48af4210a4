-- A bit of FLAG follows the raisings and clearings, one event more: `RaisedSince` into and out of a list. Assumes nothing.
use Prim.Native.Nat.{ℕ, zero, suc}
use mathlib.Core.Path.{◌≡◌, refl, ap, ◌∙◌}
use mathlib.Core.Logic.{◌↔◌, ◌⊎◌, inl, inr}
use mathlib.Core.List.Memᴰ
use mathlib.Core.List.{List, [], ◌∷◌, ◌++◌, Memᴰ, head-eq_of_cons-eq, tail-eq_of_cons-eq, nil≢cons}
use native.Mathlib.Omega.{arith}
use lib.Bits.{bit_or, bit_and}
use Rattle.compensation.specs.Stat.{bit_at, Raised}
use Rattle.compensation.proofs.Flags.{bit-or, zero_bit}
use Rattle.converter.specs.Log.{Event, raised, kept}
use Rattle.converter.specs.History.{RaisedSince}
use Rattle.converter.proofs.Bits.{bit-and, bit-small}

kept-not-raised : {m n : ℕ} → kept m ≡ raised n → ⊥
kept-not-raised e = let z : ◌≡◌ {A = ℕ} 0 1 = cc in omega arith

kept-inj : {m n : ℕ} → kept m ≡ kept n → m ≡ n
kept-inj e = cc

-- into the list
here : {b m : ℕ} {es : List Event} → Raised b m → RaisedSince b (raised m ∷ es)
here {m} {es} h =
    record { later = []; bits = m; earlier = es; split = refl; raises = h; uncleared = λ n i. absurd (Memᴰ.not-nil i) }

past-raised : {b : ℕ} (m : ℕ) {es : List Event} → RaisedSince b es → RaisedSince b (raised m ∷ es)
past-raised {b} m r = record {
  later = raised m ∷ r.later;
  bits = r.bits;
  earlier = r.earlier;
  split = ap (λ (l : List Event). raised m ∷ l) r.split;
  raises = r.raises;
  uncleared = λ n i. go n (Memᴰ.cases_cons i);
}
  where
    go : (n : ℕ) → (kept n ≡ raised m) ⊎ Memᴰ (kept n) r.later → Raised b n
    go n (inl e) = absurd (kept-not-raised e)
    go n (inr i) = r.uncleared n i

past_kept : {b m : ℕ} {es : List Event} → Raised b m → RaisedSince b es → RaisedSince b (kept m ∷ es)
past_kept {b} {m} h r = record {
  later = kept m ∷ r.later;
  bits = r.bits;
  earlier = r.earlier;
  split = ap (λ (l : List Event). kept m ∷ l) r.split;
  raises = r.raises;
  uncleared = λ n i. go n (Memᴰ.cases_cons i);
}
  where
    go : (n : ℕ) → (kept n ≡ kept m) ⊎ Memᴰ (kept n) r.later → Raised b n
    go n (inl e) = rw (kept-inj e) h
    go n (inr i) = r.uncleared n i

-- out of it
from-raised : {b m : ℕ} {es : List Event} → RaisedSince b (raised m ∷ es) → (Raised b m) ⊎ RaisedSince b es
from-raised {b} {m} {es} r = go r.later r.split r.uncleared
  where
    go : (later : List Event) → raised m ∷ es ≡ later ++ (raised r.bits ∷ r.earlier)
        → ((n : ℕ) → Memᴰ (kept n) later → Raised b n) → (Raised b m) ⊎ RaisedSince b es
    go [] e u = inl (ap (bit_at b) (inj (head-eq_of_cons-eq e)) ∙ r.raises)
      where
        inj : {x y : ℕ} → raised x ≡ raised y → x ≡ y
        inj p = cc
    go (x ∷ xs) e u = inr record
        { later = xs; bits = r.bits; earlier = r.earlier; split = tail-eq_of_cons-eq e; raises = r.raises; uncleared = λ n i. u n (Memᴰ.tail i) }

from-kept : {b m : ℕ} {es : List Event} → RaisedSince b (kept m ∷ es) → (Raised b m) × RaisedSince b es
from-kept {b} {m} {es} r = go r.later r.split r.uncleared
  where
    go : (later : List Event) → kept m ∷ es ≡ later ++ (raised r.bits ∷ r.earlier)
        → ((n : ℕ) → Memᴰ (kept n) later → Raised b n) → (Raised b m) × RaisedSince b es
    go [] e u = absurd (kept-not-raised (head-eq_of_cons-eq e))
    go (x ∷ xs) e u = (
      u m (Memᴰ.head (head-eq_of_cons-eq e)),
      record { later = xs; bits = r.bits; earlier = r.earlier; split = tail-eq_of_cons-eq e; raises = r.raises; uncleared = λ n i. u n (Memᴰ.tail i) },
    )

-- the bit of a number follows: one law for each event
abbrev pub Latched : ℕ → ℕ → List Event → Type 0
Latched b f es = (Raised b f) ↔ RaisedSince b es

either : (b f m : ℕ) → Raised b (bit_or f m) → (Raised b f) ⊎ (Raised b m)
either b f m h = go (bit_at b m) refl
  where
    go : (n : ℕ) → bit_at b m ≡ n → (Raised b f) ⊎ (Raised b m)
    go zero e = inl (omega (arith, bit-or b f m))
    go (suc n) e = inr (omega (arith, bit-small b m))

pub latch-raised : (b f m : ℕ) (es : List Event) → Latched b f es → Latched b (bit_or f m) (raised m ∷ es)
latch-raised b f m es h = (λ t. in' (either b f m t), λ r. out (from-raised r))
  where
    in' : (Raised b f) ⊎ (Raised b m) → RaisedSince b (raised m ∷ es)
    in' (inl t) = past-raised m (h.0 t)
    in' (inr t) = here t

    out : (Raised b m) ⊎ RaisedSince b es → Raised b (bit_or f m)
    out (inl t) = omega (arith, bit-or b f m, bit-small b f)
    out (inr r) = omega (arith, bit-or b f m, bit-small b m, h.1 r)

pub latch-kept : (b f m : ℕ) (es : List Event) → Latched b f es → Latched b (bit_and f m) (kept m ∷ es)
latch-kept b f m es h = (
  λ t. past_kept (omega (arith, bit-and b f m, bit-small b f, bit-small b m)) (h.0 (omega (arith, bit-and b f m, bit-small b f, bit-small b m))),
  λ r. omega (arith, bit-and b f m, (from-kept r).0, h.1 (from-kept r).1),
)

-- before a start
pub latch-none : (b : ℕ) → Latched b 0 []
latch-none b = (λ t. absurd (omega (arith, t, zero_bit b)), λ r. absurd (no-split r.later (raised r.bits) r.earlier r.split))
  where
    no-split : (later : List Event) (e : Event) (earlier : List Event) → [] ≡ later ++ (e ∷ earlier) → ⊥
    no-split [] e earlier p = nil≢cons p
    no-split (x ∷ later) e earlier p = nil≢cons p

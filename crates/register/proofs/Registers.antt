-- The registers' access over a whole range of numbers, by one computed test; and that every range can be computed with. Assumes nothing.
use mathlib.Core.Path.{◌≡◌, refl, sym, ap, ap₂, ◌∙◌, subst}
use mathlib.Core.Logic.{◌⊎◌, inl, inr}
use mathlib.Core.List.{List, [], ◌∷◌}
use mathlib.Core.Bool.{Bool, true, false, cond, not, ◌&&◌, ◌||◌}
use Prim.Native.Nat.{ℕ, zero, suc, ◌+◌, ◌^◌, ◌≤◌, ◌<◌}
use native.Mathlib.Omega.{arith}
use borrow.Author.Tests.{lt-leb, ne_eqb}
use lib.Dec.{T, eqb, leb, ltb, eqb→eq, ltb→lt, leb→le, lit≤}
use lib.IntN.{ℤ, pos, negsuc, nat_abs}
use lib.Ieee.Fits.{and_l, and_r}
use Rattle.integers.specs.Within.{◌within◌}
use Rattle.integers.proofs.Order.{pick}
use Rattle.binary32.specs.ForCode.{Computable}
use Rattle.binary32.specs.declared.received.Range.{Range}
use Rattle.register.specs.declared.Access.{Access}
use Rattle.register.specs.declared.Access.TheVariants.{Unlisted, ReadOnly, Takes, Action}
use Rattle.register.specs.Register.{Registers, registers, found, listed, access_of, range_in, range_of}
use Rattle.register.proofs.Run.{every, at_every}

-- ---- a test of equality

abbrev same_int : ℤ → ℤ → Bool
same_int (pos a) (pos b) = eqb a b
same_int (pos a) (negsuc b) = false
same_int (negsuc a) (pos b) = false
same_int (negsuc a) (negsuc b) = eqb a b

int_is : (a b : ℤ) → T (same_int a b) → a ≡ b
int_is (pos a) (pos b) t = ap pos (eqb→eq a b t)
int_is (pos a) (negsuc b) t = absurd t
int_is (negsuc a) (pos b) t = absurd t
int_is (negsuc a) (negsuc b) t = ap negsuc (eqb→eq a b t)

abbrev pub kind_of : Access → ℕ
kind_of Unlisted = 0
kind_of ReadOnly = 1
kind_of (Takes r) = 2
kind_of Action = 3

abbrev of_kind : ℕ → Range → Access
of_kind zero r = Unlisted
of_kind (suc zero) r = ReadOnly
of_kind (suc (suc zero)) r = Takes r
of_kind (suc (suc (suc n))) r = Action

back : (a : Access) → of_kind (kind_of a) (range_in a) ≡ a
back Unlisted = refl
back ReadOnly = refl
back (Takes r) = refl
back Action = refl

abbrev same_range : Range → Range → Bool
same_range r s = eqb r.shift s.shift && (same_int r.least s.least && same_int r.most s.most)

range-is : (r s : Range) → T (same_range r s) → r ≡ s
range-is r s t =
    let a = eqb r.shift s.shift in
    let b = same_int r.least s.least in
    let c = same_int r.most s.most in
    let p : r.shift ≡ s.shift = eqb→eq r.shift s.shift (and_l a (b && c) t) in
    let q : r.least ≡ s.least = int_is r.least s.least (and_l b c (and_r a (b && c) t)) in
    let m : r.most ≡ s.most = int_is r.most s.most (and_r b c (and_r a (b && c) t)) in
    ap (λ (n : ℕ). made n r.least r.most) p ∙ ap₂ (λ (x y : ℤ). made s.shift x y) q m
  where
    made : ℕ → ℤ → ℤ → Range
    made n x y = record { shift = n; least = x; most = y }

abbrev same : Access → Access → Bool
same a b = eqb (kind_of a) (kind_of b) && same_range (range_in a) (range_in b)

same-is : (a b : Access) → T (same a b) → a ≡ b
same-is a b t =
    let k = eqb (kind_of a) (kind_of b) in
    let r = same_range (range_in a) (range_in b) in
    sym (back a) ∙ ap₂ of_kind (eqb→eq (kind_of a) (kind_of b) (and_l k r t)) (range-is (range_in a) (range_in b) (and_r k r t)) ∙ back b

-- ---- the n registers from i on, but for those that `skip` tells, have the access a

abbrev pub all : (ℕ → Bool) → Access → ℕ → ℕ → Bool
all skip a n i = every (λ j. skip j || same a (access_of j)) n i

pub in-range : (skip : ℕ → Bool) (a : Access) (n i : ℕ) → T (all skip a n i) → (r : ℕ) → i ≤ r → r < i + n → skip r ≡ false → a ≡ access_of r
in-range skip a n i t r l h e = same-is a (access_of r) (subst (λ (b : Bool). T (b || same a (access_of r))) e (at_every (λ j. skip j || same a (access_of j)) n i t r l h))

-- ---- from 126 on nothing is listed

abbrev under : ℕ → List Registers → Bool
under top [] = true
under top (r ∷ rest) = ltb r.last top && under top rest

none-beyond : (rs : List Registers) (n : ℕ) → T (under 126 rs) → 126 ≤ n → Unlisted ≡ found rs n
none-beyond [] n t h = refl
none-beyond (r ∷ rest) n t h =
    let l : r.last < 126 = ltb→lt r.last 126 (and_l (ltb r.last 126) (under 126 rest) t) in
    none-beyond rest n (and_r (ltb r.last 126) (under 126 rest) t) h ∙ sym (rw (lt-leb n r.last (omega arith)) (rw (no (leb r.first n))))
  where
    no : (b : Bool) → (b && false) ≡ false
    no true = refl
    no false = refl

pub past-last : (n : ℕ) → 126 ≤ n → Unlisted ≡ access_of n
unfolding access_of
past-last n h = none-beyond registers n tt h

-- ---- what a test tells of every row, it tells of every register

abbrev rows : (Range → Bool) → List Registers → Bool
rows test [] = test (range_in Unlisted)
rows test (r ∷ rest) = test (range_in r.access) && rows test rest

row-found : (test : Range → Bool) (rs : List Registers) (n : ℕ) → T (rows test rs) → T (test (range_in (found rs n)))
row-found test [] n t = t
row-found test (r ∷ rest) n t =
    pick (leb r.first n && leb n r.last) r.access (found rest n) (λ a. T (test (range_in a)))
    (λ e. and_l (test (range_in r.access)) (rows test rest) t)
    (λ e. row-found test rest n (and_r (test (range_in r.access)) (rows test rest) t))

-- every range can be computed with
abbrev computable : Range → Bool
computable r = leb r.shift 28 && (leb (nat_abs r.least) (2 ^ 34) && leb (nat_abs r.most) (2 ^ 34))

pub range-computable : (n : ℕ) → Computable (range_of n)
unfolding range_of access_of
range-computable n =
    let r = range_in (found registers n) in
    let t = row-found computable registers n tt in
    let a = leb r.shift 28 in
    let b = leb (nat_abs r.least) (2 ^ 34) in
    let c = leb (nat_abs r.most) (2 ^ 34) in
    record {
      shift_in = leb→le r.shift 28 (and_l a (b && c) t);
      least_in = record { abs = leb→le (nat_abs r.least) (2 ^ 34) (and_l b c (and_r a (b && c) t)) };
      most_in = record { abs = leb→le (nat_abs r.most) (2 ^ 34) (and_r b c (and_r a (b && c) t)) };
    }

pub access-computable : (a : Access) (n : ℕ) → (a ≡ access_of n) ⊎ (a ≡ Unlisted) → Computable (range_in a)
unfolding range_of
access-computable a n (inl e) = rw e (range-computable n)
access-computable a n (inr e) = rw e (record { shift_in = lit≤ tt; least_in = record { abs = lit≤ tt }; most_in = record { abs = lit≤ tt } })

-- the least of a range is no larger than the most
pub least-within : (n : ℕ) → (range_of n).least within (nat_abs (range_of n).most)
unfolding range_of access_of
least-within n = record { abs = leb→le _ _ (row-found (λ r. leb (nat_abs r.least) (nat_abs r.most)) registers n tt) }

-- what counts neither in steps nor in parts counts in whole numbers, up to 65,535
pub whole-range : (n : ℕ) → ((range_of n).shift ≡ 28 → ⊥) → ((range_of n).shift ≡ 16 → ⊥) → ((range_of n).shift ≡ 0) × (nat_abs (range_of n).most ≤ 65535)
unfolding range_of access_of
whole-range n no-parts no_steps =
    let r = range_in (found registers n) in
    by r.shift (nat_abs r.most) (row-found (λ r. eqb r.shift 28 || (eqb r.shift 16 || (eqb r.shift 0 && leb (nat_abs r.most) 65535))) registers n tt) no-parts no_steps
  where
    by : (k m : ℕ) → T (eqb k 28 || (eqb k 16 || (eqb k 0 && leb m 65535))) → (k ≡ 28 → ⊥) → (k ≡ 16 → ⊥) → (k ≡ 0) × (m ≤ 65535)
    by k m t a b =
        let u : T (eqb k 0 && leb m 65535) = rw (ne_eqb k 28 a, ne_eqb k 16 b) at t in
        (eqb→eq k 0 (and_l (eqb k 0) (leb m 65535) u), leb→le m 65535 (and_r (eqb k 0) (leb m 65535) u))

-- steps are no more than a float of steps may be asked for
pub step_range : (n : ℕ) → (range_of n).shift ≡ 16 → nat_abs (range_of n).most ≤ 4194304000
unfolding range_of access_of
step_range n e = leb→le _ _ (rw e at (row-found (λ r. not (eqb r.shift 16) || leb (nat_abs r.most) 4194304000) registers n tt))

-- ---- the n registers from i on all are listed, or none is

abbrev pub all_listed : Bool → ℕ → ℕ → Bool
all_listed b n i = every (λ j. cond b (listed (access_of j)) (not (listed (access_of j)))) n i

pub told : (b t : Bool) → T (cond b t (not t)) → b ≡ t
told true true h = refl
told true false h = absurd h
told false true h = absurd h
told false false h = refl

pub listed-over : (b : Bool) (n i : ℕ) → T (all_listed b n i) → (r : ℕ) → i ≤ r → r < i + n → b ≡ listed (access_of r)
listed-over b n i t r l h = told b (listed (access_of r)) (at_every (λ j. cond b (listed (access_of j)) (not (listed (access_of j)))) n i t r l h)

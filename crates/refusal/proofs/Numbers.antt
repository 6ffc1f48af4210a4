-- No refusal has the number 0, and no two have one: a call's number tells whether it was turned down, and why. Assumes nothing.
use Rattle.std.proofs.Common.{◌≡◌, ◌∙◌, ℕ, ◌-◌, ◌<◌, List, [], ◌∷◌, slice_get, Option, Some, Result, Ok, Err, refl, sym, ap, rules, arith}
use Rattle.std.specs.Result.{IsErrAnd}
use Rattle.refusal.specs.Refusal.{number, number_of}
use Rattle.refusal.specs.declared.Refusal.{Refusal}
use Rattle.refusal.specs.declared.Refusal.TheVariants.{ShortSheet, WrongCount, Figure, Order, TooSteep, Crossed, Trailing, Station, BadReading, NoReading, NoSnapshot, ShortBuffer, NotForUs, Function, Address, Value, UnfitCopy, CornerRefused, Buffers, Probe}

pub number_above : (e : Refusal) → 0 < number e
number_above ShortSheet = omega arith
number_above WrongCount = omega arith
number_above Figure = omega arith
number_above Order = omega arith
number_above TooSteep = omega arith
number_above Crossed = omega arith
number_above Trailing = omega arith
number_above Station = omega arith
number_above BadReading = omega arith
number_above NoReading = omega arith
number_above NoSnapshot = omega arith
number_above ShortBuffer = omega arith
number_above NotForUs = omega arith
number_above Function = omega arith
number_above Address = omega arith
number_above Value = omega arith
number_above UnfitCopy = omega arith
number_above CornerRefused = omega arith
number_above Buffers = omega arith
number_above Probe = omega arith

-- the reasons in the order of their numbers, which begin at 1
abbrev in_order : List Refusal
in_order = ShortSheet ∷ WrongCount ∷ Figure ∷ Order ∷ TooSteep ∷ Crossed ∷ Trailing ∷ Station ∷ BadReading ∷ NoReading ∷ NoSnapshot ∷ ShortBuffer ∷ NotForUs ∷ Function ∷ Address ∷ Value ∷ UnfitCopy ∷ CornerRefused ∷ Buffers ∷ Probe ∷ []

abbrev named : ℕ → Option Refusal
named n = slice_get in_order (n - 1)

named-number : (e : Refusal) → named (number e) ≡ Some e
named-number ShortSheet = refl
named-number WrongCount = refl
named-number Figure = refl
named-number Order = refl
named-number TooSteep = refl
named-number Crossed = refl
named-number Trailing = refl
named-number Station = refl
named-number BadReading = refl
named-number NoReading = refl
named-number NoSnapshot = refl
named-number ShortBuffer = refl
named-number NotForUs = refl
named-number Function = refl
named-number Address = refl
named-number Value = refl
named-number UnfitCopy = refl
named-number CornerRefused = refl
named-number Buffers = refl
named-number Probe = refl

some-is : {A : Type 0} {x y : A} → Some x ≡ Some y → x ≡ y
some-is h = search rules

pub number-tells : (a b : Refusal) → number a ≡ number b → a ≡ b
number-tells a b h = some-is (sym (named-number a) ∙ (ap named h ∙ named-number b))

-- what `?` hands on
pub refused : {A : Type 0} (r : Result A Refusal) (e : Refusal) → IsErrAnd r (λ f. f ≡ e) → number_of r ≡ number e
refused (Err f) e h = ap number h
refused (Ok _) e h = absurd h

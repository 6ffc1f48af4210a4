-- The table's second statement holds, by computation; from 126 on there is no register. Assumes nothing.
use mathlib.Core.Path.{◌≡◌, refl, sym, ap, ap₂, ◌∙◌}
use mathlib.Core.Bool.{Bool, true, false, ◌&&◌, ◌||◌}
use mathlib.Core.List.{List, [], ◌∷◌}
use Prim.Native.Nat.{ℕ, zero, suc, ◌≤◌, ◌<◌}
use native.Mathlib.Omega.{arith}
use borrow.Author.Tests.{ltb-true, ltb-false, ne_eqb}
use lib.Dec.{T, eqb, ltb, eqb→eq, ltb→lt}
use lib.Ieee.{of_bits}
use lib.Ieee.Fits.{and_l, and_r}
use Rattle.arithmetic.specs.Round.{round_div, round_magnitude}
use Rattle.binary32.specs.Received.{takes, nearest, counted}
use Rattle.register.specs.Register.{access_of, range_of}
use Rattle.register.specs.Ends.{kind_of, EndsHold}
use Rattle.register.specs.Listed.{Kind, not_listed, only_read, valued, acting, is_in, kind_said, read_onlys, values, actions}
use Rattle.register.proofs.Run.{at_every}
use Rattle.register.proofs.Registers.{past-last}

-- ---- below 126, by one computed test

abbrev code : Kind → ℕ
code not_listed = 0
code only_read = 1
code valued = 2
code acting = 3

abbrev coded : ℕ → Kind
coded zero = not_listed
coded (suc zero) = only_read
coded (suc (suc zero)) = valued
coded (suc (suc (suc n))) = acting

back : (k : Kind) → coded (code k) ≡ k
back not_listed = refl
back only_read = refl
back valued = refl
back acting = refl

same_kind : (a b : Kind) → T (eqb (code a) (code b)) → a ≡ b
same_kind a b t = sym (back a) ∙ ap coded (eqb→eq (code a) (code b) t) ∙ back b

as_said : (n : ℕ) → n < 126 → kind_of (access_of n) ≡ kind_said n
unfolding access_of
as_said n h = same_kind (kind_of (access_of n)) (kind_said n) (at_every (λ i. eqb (code (kind_of (access_of i))) (code (kind_said i))) 126 0 tt n (omega arith) h)

-- ---- from 126 on

abbrev pub under : List ℕ → Bool
under [] = true
under (m ∷ rest) = ltb m 126 && under rest

pub none_in : (l : List ℕ) (n : ℕ) → T (under l) → 126 ≤ n → is_in l n ≡ false
none_in [] n t h = refl
none_in (m ∷ rest) n t h = ap₂ ◌||◌ (ne_eqb n m (λ e. omega (arith, e, ltb→lt m 126 (and_l (ltb m 126) (under rest) t)))) (none_in rest n (and_r (ltb m 126) (under rest) t) h)

none_said : (n : ℕ) → 126 ≤ n → not_listed ≡ kind_said n
none_said n h = simp (none_in read_onlys n tt h, none_in actions n tt h, none_in values n tt h)

kinds : (n : ℕ) → kind_of (access_of n) ≡ kind_said n
kinds n = by (ltb n 126) refl
  where
    by : (b : Bool) → ltb n 126 ≡ b → kind_of (access_of n) ≡ kind_said n
    by true e = as_said n (ltb-true n 126 e)
    by false e = ap kind_of (sym (past-last n (ltb-false n 126 e))) ∙ none_said n (ltb-false n 126 e)

pub ends-hold : EndsHold
unfolding round_div round_magnitude of_bits takes nearest counted access_of range_of
ends-hold = record { hold = refl; rows = refl; all = refl; kinds = kinds }

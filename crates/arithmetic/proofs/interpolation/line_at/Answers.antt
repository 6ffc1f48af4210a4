-- `line_at` meets its contract: no step leaves an i64. Assumes nothing.
use mathlib.Core.Path.{◌≡◌, ◌∙◌, ap, ap₂}
use Prim.Native.Nat.{◌^◌}
use lib.IntN.{ℤ, ◌+ℤ◌, ◌-ℤ◌, ◌*ℤ◌}
use lib.Signed.{<ℤ-≤ℤ_trans}
use Rattle.integers.specs.Within.{◌within◌}
use Rattle.integers.proofs.Order.{gap-pos, <-≤}
use Rattle.integers.proofs.Magnitude.{within-between}
use Rattle.integers.proofs.Machine.{plain, fits, small, i64s, lt-plain}
use Rattle.arithmetic.specs.Round.{round_div}
use Rattle.arithmetic.proofs.Segment.{rise-within}
use Rattle.arithmetic.proofs.interpolation.line_at.Goals.{After-round_div, Start}
use Rattle.arithmetic.proofs.interpolation.line_at.Goals as goal

t-in : (c : Start) → c.args.t within (2 ^ 31)
t-in c = within-between c.requires.t₁_in c.requires.t₂_in (<-≤ c.requires.after) c.requires.upto

rise : Start → ℤ
rise c = round_div ((c.args.v2 -ℤ c.args.v1) *ℤ (c.args.t -ℤ c.args.t1)) (c.args.t2 -ℤ c.args.t1)

module _ (c : After-round_div) where
  result-is : c.round_div.result ≡ rise c.before
  unfolding rise
  result-is = let t = t-in c.before in c.round_div.ensures ∙ ap₂ round_div (plain (search i64s depth 12) tt) (plain (search i64s depth 12) tt)

  result-in : c.round_div.result within (2 ^ 28)
  unfolding rise
  result-in = rw result-is (rise-within c.requires)

pub overflow_sub-v2 : goal.overflow_sub-v2
overflow_sub-v2 c = fits (search i64s depth 9) tt

pub overflow_sub-t : goal.overflow_sub-t
overflow_sub-t c = let t = t-in c in fits (search i64s depth 9) tt

pub overflow_mul-v2 : goal.overflow_mul-v2
overflow_mul-v2 c = let t = t-in c in fits (search i64s depth 9) tt

pub overflow_sub-t2 : goal.overflow_sub-t2
overflow_sub-t2 c = fits (search i64s depth 9) tt

pub round_div-requires : goal.round_div-requires
round_div-requires c =
    let t = t-in c in
    record {
      a = small (search i64s depth 12) tt;
      pos_bound = lt-plain (search i64s) (search i64s depth 9) tt (gap-pos (<ℤ-≤ℤ_trans c.requires.after c.requires.upto));
      d = small (search i64s depth 12) tt;
    }

pub overflow_add-result : goal.overflow_add-result
overflow_add-result c = let h = result-in c in fits (search i64s depth 9) tt

pub returns : goal.returns
unfolding rise
returns c = let h = result-in c in plain (search i64s depth 9) tt ∙ ap (λ (y : ℤ). c.args.v1 +ℤ y) (result-is c)

-- Where a move is accepted, its bytes fit both buffers. Assumes nothing.
use mathlib.Core.Path.{◌≡◌, refl, ◌∙◌, ap}
use mathlib.Core.Bool.{Bool, true, false, cond}
use mathlib.Core.List.{List}
use Prim.Native.Nat.{ℕ, ◌+◌, ◌≤◌}
use native.Mathlib.Omega.{arith}
use lib.Dec.{ltb}
use lib.ListN.{length, drop, length-append, length-drop}
use borrow.Author.Tests.{ltb-false}
use Rattle.sheet.specs.Places.{identity_size}
use Rattle.sheet.specs.Read.{old_number, figures_of, temperature_at, linearity_at}
use Rattle.sheet.specs.Forms.{identity_bytes, given_number, own_identity_number, new_number}
use Rattle.sheet.specs.declared.Identity.{Identity}
use Rattle.sheet.proofs.Chain.{then-none}
use Rattle.sheet.proofs.Sections.{counts-in}
use Rattle.sheet.proofs.Judged.{faultless}
use Rattle.sheet.proofs.EitherForm.{section-none}
use Rattle.sheet.proofs.NewForm.{identity-length}
use Rattle.laboratory.specs.Moves.{to_new, to_old, scratch_least, buffers_number, to_new_number, to_old_number}

-- an accepted old sheet has 325 bytes at most
pub old-length : (s : List ℕ) → old_number s ≡ 0 → length s ≤ 325
unfolding figures_of temperature_at linearity_at
old-length s h = let f = faultless s h in let k = counts-in (figures_of s) f.figures-none in omega (arith, f.long, k)

pub new-length : (i : Identity) (s : List ℕ) → length (to_new i s) ≡ identity_size + length s
new-length i s = length-append (identity_bytes i) s ∙ ap (λ (n : ℕ). n + length s) (identity-length i)

-- ---- buffers that are long enough

roomy : (a b : Bool) → cond {A = ℕ} a 19 (cond b 19 0) ≡ 0 → (a ≡ false) × (b ≡ false)
roomy true b e = absurd (omega (arith, e))
roomy false true e = absurd (omega (arith, e))
roomy false false e = (refl, refl)

pub long-buffers : (written out scratch : ℕ) → buffers_number written out scratch ≡ 0 → (written ≤ out) × (scratch_least ≤ scratch)
unfolding buffers_number
long-buffers written out scratch e =
    let r = roomy (ltb out written) (ltb scratch scratch_least) e in
    (ltb-false out written r.0, ltb-false scratch scratch_least r.1)

-- ---- what an accepted move knows

pub record FitsNew (s : List ℕ) (i : Identity) (out scratch : ℕ) : Type 0 where
  pub sheet-none : old_number s ≡ 0
  pub given-none : given_number i ≡ 0
  pub in-out : identity_size + length s ≤ out
  pub in-scratch : identity_size + length s ≤ scratch

pub fits-new : (s : List ℕ) (i : Identity) (out scratch : ℕ) → to_new_number s i out scratch ≡ 0 → FitsNew s i out scratch
unfolding to_new_number
fits-new s i out scratch h =
    let a = then-none {a = old_number s} h in
    let b = then-none {a = given_number i} a.1 in
    let l = long-buffers (length (to_new i s)) out scratch b.1 in
    record { sheet-none = a.0; given-none = b.0; in-out = omega (arith, l, new-length i s); in-scratch = omega (arith, l, old-length s a.0) }

pub record FitsOld (s : List ℕ) (out scratch : ℕ) : Type 0 where
  pub sheet-none : new_number s ≡ 0
  pub long : identity_size ≤ length s
  pub in-out : length s ≤ identity_size + out
  pub in-scratch : length s ≤ identity_size + scratch

pub new-long : (s : List ℕ) → new_number s ≡ 0 → identity_size ≤ length s
unfolding new_number
new-long s h = (section-none s (then-none {a = own_identity_number s} h).0).long

pub fits-old : (s : List ℕ) (out scratch : ℕ) → to_old_number s out scratch ≡ 0 → FitsOld s out scratch
unfolding to_old_number new_number
fits-old s out scratch h =
    let a = then-none {a = new_number s} h in
    let b = then-none {a = own_identity_number s} a.0 in
    let l = long-buffers (length (to_old s)) out scratch a.1 in
    let d = length-drop identity_size s in
    record { sheet-none = a.0; long = new-long s a.0; in-out = omega (arith, l, d); in-scratch = omega (arith, l, d, old-length (drop identity_size s) b.1) }

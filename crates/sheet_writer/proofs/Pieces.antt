-- Pieces of a buffer that are written one behind the other. Assumes nothing.
use Rattle.std.proofs.Common.{◌≡◌, ℕ, zero, suc, ℤ, ◌+◌, ◌<◌, ◌≤◌, List, [], ◌∷◌, ◌++◌, length, get_or, set, take, drop, sym, refl, ap, subst, ◌∙◌, add-one, arith, append_assoc, append-nil, length-set, drop-drop, le-ltb}
use Rattle.std.proofs.lemmas.List.{take_more, get_or-take, get_or_default}
use Rattle.std.proofs.lemmas.List.Edits.{sets, sets-eq}
use Rattle.std.proofs.Math.Seq.{length-sets}
use Rattle.std.proofs.lemmas.Grind.{flat_map-append}
use Rattle.std.specs.List.{flat_map}
use borrow.Rule.Slice.PartMut.{put_mid}
use Rattle.integers.specs.Bytes.{Put}
use Rattle.integers.proofs.Puts.{at_front}
use Rattle.figures.specs.declared.Calibration.{Calibration}
use Rattle.sheet.specs.Places.{sheet_length}
use Rattle.sheet.specs.Judge.{figures_number}
use Rattle.sheet.specs.Write.{points_bytes, sheet_bytes}
use Rattle.sheet_writer.specs.Write.{out_after, write_number}

pub store : (l : List ℕ) (at b : ℕ) → at < length l → Put (b ∷ []) l at (set l at b) (at + 1)
store l at b h = record { is = refl; next = refl; fits = simp length-set (omega arith) }

-- a part of the buffer is overwritten
pub part : (text out : List ℕ) (at k : ℕ) → k ≡ length text → at + length text ≤ length out → Put text out at (put_mid at k out text) (at + length text)
part text out at k e h =
    let whole = ap (λ (t : List ℕ). take at out ++ (text ++ t)) (drop-drop (length text) at out) ∙ sym (append_assoc (take at out) text (drop (at + length text) out)) ∙ sym (sets-eq text out at h) in
    let is : put_mid at k out text ≡ sets out at text = subst (λ (n : ℕ). put_mid at n out text ≡ sets out at text) (sym e) whole in
    record { is = is; next = refl; fits = rw (is, length-sets) h }

-- one figure more
pub figures-next : (f : ℤ → List ℕ) (vs : List ℤ) (i : ℕ) (d : ℤ) → i < length vs → flat_map f (take i vs) ++ f (get_or vs i d) ≡ flat_map f (take (i + 1) vs)
figures-next f vs i d h = rw (take_more vs i d h, flat_map-append f (take i vs) (get_or vs i d ∷ []), append-nil)

point-default : {A : Type 0} (points : List A) (i : ℕ) (p none : A) → i < length points → p ≡ get_or points i p → p ≡ get_or points i none
point-default points i p none h e = e ∙ get_or_default points i p none h

-- one point more, and the first points of a table
pub points-bytes-next : {A : Type 0} (none : A) (point_bytes : A → List ℕ) (points : List A) (i : ℕ) (p : A) → i < length points → p ≡ get_or points i p → points_bytes none point_bytes points i ++ point_bytes p ≡ points_bytes none point_bytes points (i + 1)
points-bytes-next none point_bytes points i p h e = rw (add-one, ← point-default points i p none h e)

pub points-front : {A : Type 0} (none : A) (point_bytes : A → List ℕ) (points : List A) (n i : ℕ) → i ≤ n → points_bytes none point_bytes (take n points) i ≡ points_bytes none point_bytes points i
points-front none point_bytes points n zero h = refl
points-front none point_bytes points n (suc i) h =
    let l : i < n = omega arith in
    rw (get_or-take n points i none l, points-front none point_bytes points n i (omega arith))

-- the buffer, once a sheet is written
pub done : (c : Calibration) (out new : List ℕ) → 0 ≡ figures_number c → sheet_length c ≤ length out → Put (sheet_bytes c) out 0 new (sheet_length c) → new ≡ out_after c out
unfolding out_after write_number
done c out new e h p =
    let long : length (sheet_bytes c) ≡ sheet_length c = omega (arith, p.next) in
    rw (← e, le-ltb _ _ h) (at_front p ∙ ap (λ (n : ℕ). sheet_bytes c ++ drop n out) long)

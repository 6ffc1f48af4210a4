-- The new form of an old sheet: it says its identity, and is judged and read as the old sheet behind it. Assumes nothing.
use Rattle.std.proofs.Common.{◌≡◌, ℕ, ◌≤◌, true, false, List, ◌∷◌, ◌++◌, length, drop, ℤ, pos, ◌≤ℤ◌, sym, refl, ap, ◌∙◌, ap₂, append_assoc, arith, length-append, w64, SFits, eq-eqb, ne_eqb}
use Rattle.integers.proofs.Parts.{ints, nonneg-parts}
use Rattle.integers.proofs.Difference.{⟨◌⟩}
use Rattle.integers.proofs.Machine.{fits! }
use Rattle.sheet.specs.Bytes.{Bytes, count_at, figure_at, figure_bytes}
use Rattle.sheet.specs.Places.{identity_size}
use Rattle.sheet.specs.Judge.{◌then◌}
use Rattle.sheet.specs.Read.{old_number, read_old}
use Rattle.sheet.specs.Forms.{identity_at, identity_bytes, given_number, own_identity_number, is_new, new_number, sheet_number, read_sheet}
use Rattle.sheet.specs.declared.Identity.{Identity}
use Rattle.sheet.proofs.EightBytes.{figure-length, glue, glue-count, cut, cut-count}
use Rattle.sheet.proofs.Chain.{then-none}
use Rattle.sheet.proofs.Judged.{faultless}
use Rattle.sheet.proofs.EitherForm.{given-in, section-none, none-section, reads_old, reads-new}

-- an identity in range is two figures of 64 bits
range-fits : {n : ℕ} {v : ℤ} → n ≤ 4294967295 → pos 0 ≤ℤ v → v ≤ℤ pos n → SFits w64 v
range-fits {n} {v} l h k = fits! ⟨ v ⟩ (omega (ints, nonneg-parts h))

pub identity-length : (i : Identity) → length (identity_bytes i) ≡ identity_size
unfolding identity_bytes
identity-length i = simp (length-append, figure-length)

module _ (i : Identity) (s : List ℕ) (h : given_number i ≡ 0) where
  abbrev t : List ℕ
  t = identity_bytes i ++ s

  record Says : Type 0 where
    count-is : count_at t 0 ≡ 2
    identity_is : identity_at t ≡ i
    old-is : drop identity_size t ≡ s
    long : identity_size ≤ length t

  says : Says
  unfolding identity_at identity_bytes
  says =
      let r = given-in i h in
      let all : drop 0 t ≡ 2 ∷ figure_bytes i.serial ++ (figure_bytes i.day ++ s) = ap (λ (l : List ℕ). 2 ∷ l) (append_assoc (figure_bytes i.serial) (figure_bytes i.day) s) in
      let c = cut-count t 0 1 2 _ refl all in
      let a = cut t 1 9 i.serial _ refl (range-fits (omega arith) r.serial.least r.serial.most) c.next in
      let b = cut t 9 17 i.day s refl (range-fits (omega arith) r.day.least r.day.most) a.next in
      record { count-is = c.is; identity_is = rw (a.is, b.is); old-is = b.next; long = b.there }

  -- the old bytes again, and the identity
  pub old-back : drop identity_size t ≡ s
  old-back = says.old-is

  pub identity-back : identity_at t ≡ i
  identity-back = says.identity_is

  pub new-marked : is_new t ≡ true
  new-marked = eq-eqb (count_at t 0) 2 says.count-is

  pub new-section : own_identity_number t ≡ 0
  new-section = let k = says in none-section t (record { count-is = k.count-is; given = ap given_number k.identity_is ∙ h; long = k.long })

  -- judged as the old sheet is
  pub new-judged : new_number t ≡ old_number s
  unfolding new_number
  new-judged = ap₂ ◌then◌ new-section (ap old_number old-back)

  pub behind-judged : sheet_number t ≡ old_number s
  unfolding sheet_number
  behind-judged = rw new-marked new-judged

  -- "Both are read and give the same device"
  pub new-read : read_sheet t ≡ read_old s
  new-read = reads-new t new-marked new-section ∙ ap read_old old-back

-- a new sheet is the new form of the old one in it, with its own identity
pub new_is : (s : List ℕ) → Bytes s → own_identity_number s ≡ 0 → identity_bytes (identity_at s) ++ drop identity_size s ≡ s
unfolding identity_at identity_bytes
new_is s b h =
    let k = section-none s h in
    let d = glue s 9 17 b refl k.long refl in
    let a = glue s 1 9 b refl (omega (arith, k.long)) d in
    let all = glue-count s 0 1 refl (omega (arith, k.long)) a in
    ap (λ (l : List ℕ). 2 ∷ l) (append_assoc (figure_bytes (figure_at s 1)) (figure_bytes (figure_at s 9)) (drop 17 s))
    ∙ ap (λ (n : ℕ). n ∷ figure_bytes (figure_at s 1) ++ (figure_bytes (figure_at s 9) ++ drop 17 s)) (sym k.count-is)
    ∙ sym all

-- ---- an accepted sheet of each form

pub old-marked : (s : List ℕ) → old_number s ≡ 0 → is_new s ≡ false
old-marked s h = ne_eqb (count_at s 0) 2 (λ z. omega (arith, z, (faultless s h).cell-count))

pub old-within : (s : List ℕ) → new_number s ≡ 0 → old_number (drop identity_size s) ≡ 0
unfolding new_number
old-within s h = (then-none {a = own_identity_number s} h).1

-- the old sheet in a new one is read as the new one is
pub same_read : (s : List ℕ) → new_number s ≡ 0 → read_sheet (drop identity_size s) ≡ read_sheet s
unfolding new_number
same_read s h =
    let z = then-none {a = own_identity_number s} h in
    let two = eq-eqb (count_at s 0) 2 (section-none s z.0).count-is in
    reads_old (drop identity_size s) (old-marked (drop identity_size s) z.1) ∙ sym (reads-new s two z.0)

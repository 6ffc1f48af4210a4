-- Texts put into a buffer, one after the other. Assumes nothing.
use mathlib.Core.Path.{◌≡◌, refl, sym, ap, ap₂, ◌∙◌}
use mathlib.Core.List.{List, [], ◌∷◌, ◌++◌, append_assoc}
use Prim.Native.Nat.{ℕ, suc, ◌+◌, ◌≤◌, ◌<◌}
use native.Mathlib.Nat.{add-zero, zero-add}
use native.Mathlib.Omega.{arith}
use lib.ListN.{length, set, take, drop, take-append-drop, length-append, length-set}
use lib.Seq.{sets, sets-eq, length-sets, take-length, drop-append-le, drop-drop}
use Rattle.integers.specs.Bytes.{Put}

sets-append : (t u l : List ℕ) (i : ℕ) → sets l i (t ++ u) ≡ sets (sets l i t) (i + length t) u
sets-append [] u l i = rw add-zero
sets-append (b ∷ t) u l i =
    let e : suc i + length t ≡ i + suc (length t) = omega arith in
    rw (← e) (sets-append t u (set l i b) (suc i))

module _ {t a b : List ℕ} {at m : ℕ} where
  pub size : Put t a at b m → length b ≡ length a
  size p = ap length p.is ∙ length-sets a at t

  -- the same, the text or the place after it written otherwise
  pub reads : {u : List ℕ} → t ≡ u → Put t a at b m → Put u a at b m
  reads e p = rw e at p

  pub upto : {n : ℕ} → m ≡ n → Put t a at b m → Put t a at b n
  upto e p = rw e at p

  pub joined : {u c : List ℕ} {m' n : ℕ} → Put t a at b m → m ≡ m' → Put u b m' c n → Put (t ++ u) a at c n
  joined {u} p e q = record {
    is = q.is ∙ ap₂ (λ (l : List ℕ) (k : ℕ). sets l k u) p.is (sym e ∙ p.next) ∙ sym (sets-append t u a at);
    next = simp length-append (omega (arith, p.next, q.next));
    fits = q.fits;
  }

  infixr 40 ◌then◌
  pub ◌then◌ : {u c : List ℕ} {n : ℕ} → Put t a at b m → Put u b m c n → Put (t ++ u) a at c n
  p then q = joined p refl q

  -- a byte is stored behind the text
  pub stored : (n x : ℕ) → m ≡ n → n < length a → Put t a at b m → Put (t ++ (x ∷ [])) a at (set b n x) (n + 1)
  stored n x e h p = joined p e (record { is = refl; next = refl; fits = simp length-set (omega (arith, size p)) })

pub nothing : (l : List ℕ) {at r : ℕ} → at ≡ r → at ≤ length l → Put [] l at l r
nothing l e h = record { is = refl; next = omega arith; fits = omega arith }

-- a text that was put at the front
pub at_front : {t a b : List ℕ} {m : ℕ} → Put t a 0 b m → b ≡ t ++ drop (length t) a
at_front {t} {a} p = p.is ∙ sets-eq t a 0 (omega (arith, p.fits, p.next, size p)) ∙ ap (λ (k : ℕ). t ++ drop k a) (zero-add (length t))

-- a text that was copied into a part of the buffer, of k bytes from its place on
pub copied : (text out part : List ℕ) (at k : ℕ) → at + length text ≤ length out → length text ≤ length (take k (drop at out)) → part ≡ take (length text) text ++ drop (length text) (take k (drop at out))
    → take at out ++ (part ++ drop k (drop at out)) ≡ sets out at text
copied text out part at k h l e =
    let s = drop at out in
    let n = length text in
    let past : drop n (take k s) ++ drop k s ≡ drop (at + n) out = sym (drop-append-le n (take k s) (drop k s) l) ∙ ap (drop n) (take-append-drop k s) ∙ drop-drop n at out in
    rw (e, take-length, append_assoc, past, ← append_assoc) (sym (sets-eq text out at h))

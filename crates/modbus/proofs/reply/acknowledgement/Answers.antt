-- `modbus::reply::acknowledgement` meets its contract. Assumes nothing.
use mathlib.Core.Path.{◌≡◌, refl, sym, ap, ◌∙◌, subst}
use mathlib.Core.Bool.{Bool, cond}
use mathlib.Core.List.{List, [], ◌∷◌}
use Prim.Native.Nat.{ℕ, zero, suc, ◌+◌, ◌≤◌}
use native.Mathlib.Omega.{arith}
use borrow.Author.Tests.{eq-eqb}
use lib.ListN.{length, take, drop}
use lib.Seq.{drop-cons}
use Rattle.integers.specs.Bytes.{byte_at, Put}
use Rattle.integers.proofs.Puts.{reads}
use Rattle.modbus.specs.Reply.{unless_silent, write_reply, Replied}
use Rattle.modbus.proofs.Replies.{replied}
use Rattle.modbus.proofs.reply.acknowledgement.Goals as goal

whole : (s b : List ℕ) {after : List ℕ} {n : ℕ} → length s ≡ 13 → Replied (unless_silent s (length b) (take 6 s)) b after n → Replied (write_reply s (length b)) b after n
unfolding write_reply
whole s b {after} {n} h r = subst (λ (t : Bool). Replied (cond t (unless_silent s (length b) (take 6 s)) []) b after n) (sym (eq-eqb (length s) 13 h)) r

-- k bytes from a place on, one by one
abbrev each : ℕ → List ℕ → ℕ → List ℕ
each zero s i = []
each (suc k) s i = byte_at s i ∷ each k s (suc i)

each-is : (k : ℕ) (s : List ℕ) (i : ℕ) → i + k ≤ length s → each k s i ≡ take k (drop i s)
each-is zero s i h = refl
each-is (suc k) s i h = ap (λ (t : List ℕ). byte_at s i ∷ t) (each-is k s (suc i) (omega arith)) ∙ sym (ap (take (suc k)) (drop-cons s i 0 (omega arith)))

filled : (s : List ℕ) {before after : List ℕ} → length s ≡ 13 → Put (each 6 s 0) before 0 after 6 → Put (take 6 s) before 0 after 6
filled s h p = reads (each-is 6 s 0 (omega arith)) p

pub returns : goal.returns
returns c =
    let s = c.args.frame.now in
    let b = c.args.reply.now in
    let h = c.if-frame-ne13.false in
    let speaks = sym c.is_silent.ensures ∙ c.if-is_silent.false in
    whole s b h (replied s b (take 6 s) speaks (filled s h c.put_six.ensures) c.end.ensures)

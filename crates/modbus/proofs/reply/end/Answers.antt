-- `modbus::reply::end` meets its contract: the checksum's two bytes, each stored in its place. Assumes nothing.
use mathlib.Core.Path.{◌≡◌, refl, ap, ◌∙◌}
use mathlib.Core.List.{List, [], ◌∷◌, ◌++◌}
use Prim.Native.Nat.{ℕ, suc, ◌+◌, ◌/◌, ◌%◌, ◌≤◌}
use native.Mathlib.Omega.{arith}
use lib.ListN.{length, take, drop, set, length-set}
use lib.Seq.{sets-eq}
use Rattle.checksum.specs.Checksum.{checksum_of, framed}
use Rattle.modbus.proofs.reply.end.Goals as goal

ended : (l : List ℕ) (n sum : ℕ) → n + 2 ≤ length l → sum ≡ checksum_of (take n l) → set (set l n (sum % 256)) (n + 1) (sum / 256) ≡ framed (take n l) ++ drop (n + 2) l
unfolding framed
ended l n sum h e =
    let next : n + 1 ≡ suc n = omega arith in
    ap (λ (k : ℕ). set (set l n (sum % 256)) k (sum / 256)) next
    ∙ sets-eq (sum % 256 ∷ sum / 256 ∷ []) l n h
    ∙ ap (λ (k : ℕ). take n l ++ (k % 256 ∷ k / 256 ∷ []) ++ drop (n + 2) l) e

pub bounds-reply-count-2 : goal.bounds-reply-count-2
bounds-reply-count-2 c = simp length-set (omega arith)

pub returns : goal.returns
returns c = let a = c.args in (refl, ended a.reply.now a.count c.checksum_of_few-sum.result (omega arith) c.checksum_of_few-sum.ensures)

-- `modbus::reply::exception` meets its contract. Assumes nothing.
use mathlib.Core.Path.{◌≡◌, sym, ap, ◌∙◌, subst}
use mathlib.Core.Bool.{Bool, cond}
use mathlib.Core.List.{List, [], ◌∷◌}
use Prim.Native.Nat.{ℕ}
use native.Mathlib.Omega.{arith}
use borrow.Author.Tests.{ne_eqb}
use lib.Bits.{bit_or}
use lib.ListN.{length}
use Rattle.modbus.specs.Frame.{station_of, function_of}
use Rattle.modbus.specs.Reply.{unless_silent, exception_code, exception_reply, Replied}
use Rattle.integers.specs.Bytes.{Put}
use Rattle.integers.proofs.Puts.{reads}
use Rattle.modbus.proofs.Replies.{replied}
use Rattle.modbus.proofs.reply.exception.Goals as goal

module _ (s b : List ℕ) (number : ℕ) where
  -- the reply with the code k
  abbrev with : ℕ → List ℕ
  with k = unless_silent s (length b) (station_of s ∷ bit_or (function_of s) 128 ∷ k ∷ [])

  abbrev code : ℕ
  code = exception_code number (function_of s)

  coded : (k : ℕ) → k ≡ code → (k ≡ 0 → ⊥) → (after : List ℕ) (n : ℕ) → Replied (with k) b after n → Replied (exception_reply s (length b) number) b after n
  unfolding exception_reply
  coded k e h after n r =
      subst (λ (t : Bool). Replied (cond t [] (with code)) b after n) (sym (ne_eqb code 0 (λ g. h (e ∙ g))))
      (subst (λ (i : ℕ). Replied (with i) b after n) e r)

-- the three bytes, with the code as it was found
abbrev text : List ℕ → ℕ → List ℕ
text s code = station_of s ∷ bit_or (function_of s) 128 ∷ code ∷ []

filled : (s : List ℕ) (code top : ℕ) {before after : List ℕ} → top ≡ bit_or (function_of s) 128 → Put (station_of s ∷ top ∷ code ∷ []) before 0 after 3 → Put (text s code) before 0 after 3
filled s code top e p = reads (ap (λ (t : ℕ). station_of s ∷ t ∷ code ∷ []) e) p

pub returns : goal.returns
returns c =
    let s = c.args.frame.now in
    let b = c.args.reply.now in
    let code = c.in-Some.code in
    let found = c.in-Some.ensures.coded in
    let speaks = sym c.is_silent.ensures ∙ c.if-is_silent.false in
    coded s b c.args.number code found.0 (λ e. omega (arith, e, found.1)) _ _
    (replied s b (text s code) speaks (filled s code c.top_set.result c.top_set.ensures c.put_three.ensures) c.end.ensures)

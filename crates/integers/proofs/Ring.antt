-- Identities of polynomials over ℤ, of any degree, by computation: both sides have one normal form. Assumes nothing.
use mathlib.Core.Path.{◌≡◌, refl, sym, ◌∙◌, ap, ap₂}
use mathlib.Core.Bool.{Bool, true, false, cond}
use mathlib.Core.List.{List, [], ◌∷◌}
use Prim.Native.Nat.{ℕ, zero, suc}
use native.Mathlib.Omega.{arith}
use lib.Dec.{eqb, ltb, leb, eqb→eq}
use lib.IntN.{ℤ, pos, negsuc, neg_ℤ, ◌+ℤ◌, ◌*ℤ◌, *ℤ_comm, zero-*ℤ, +ℤ_assoc, +ℤ_idl}
use Rattle.integers.proofs.Difference.{⟨◌⟩, ◌⊕◌, ◌⊗◌, minus, nat, eq! }
use Rattle.integers.proofs.Order.{pick, is_true}

-- ---- the laws of a commutative ring that the library lacks

pub *ℤ-assoc : (a b c : ℤ) → (a *ℤ b) *ℤ c ≡ a *ℤ (b *ℤ c)
*ℤ-assoc a b c = eq! (⟨ a ⟩ ⊗ ⟨ b ⟩ ⊗ ⟨ c ⟩) (⟨ a ⟩ ⊗ (⟨ b ⟩ ⊗ ⟨ c ⟩)) (omega arith)

pub *ℤ-+ℤ : (a b c : ℤ) → a *ℤ (b +ℤ c) ≡ a *ℤ b +ℤ a *ℤ c
*ℤ-+ℤ a b c = eq! (⟨ a ⟩ ⊗ (⟨ b ⟩ ⊕ ⟨ c ⟩)) (⟨ a ⟩ ⊗ ⟨ b ⟩ ⊕ ⟨ a ⟩ ⊗ ⟨ c ⟩) (omega arith)

pub +ℤ-*ℤ : (a b c : ℤ) → (a +ℤ b) *ℤ c ≡ a *ℤ c +ℤ b *ℤ c
+ℤ-*ℤ a b c = eq! ((⟨ a ⟩ ⊕ ⟨ b ⟩) ⊗ ⟨ c ⟩) (⟨ a ⟩ ⊗ ⟨ c ⟩ ⊕ ⟨ b ⟩ ⊗ ⟨ c ⟩) (omega arith)

pub one-*ℤ : (a : ℤ) → pos 1 *ℤ a ≡ a
one-*ℤ a = eq! (nat 1 ⊗ ⟨ a ⟩) ⟨ a ⟩ (omega arith)

neg-as : (a : ℤ) → neg_ℤ a ≡ negsuc 0 *ℤ a
neg-as a = eq! (minus ⟨ a ⟩) (minus (nat 1) ⊗ ⟨ a ⟩) (omega arith)

swap_add : (a b c : ℤ) → a +ℤ (b +ℤ c) ≡ b +ℤ (a +ℤ c)
swap_add a b c = eq! (⟨ a ⟩ ⊕ (⟨ b ⟩ ⊕ ⟨ c ⟩)) (⟨ b ⟩ ⊕ (⟨ a ⟩ ⊕ ⟨ c ⟩)) (omega arith)

swap_mul : (a b c : ℤ) → a *ℤ (b *ℤ c) ≡ b *ℤ (a *ℤ c)
swap_mul a b c = eq! (⟨ a ⟩ ⊗ (⟨ b ⟩ ⊗ ⟨ c ⟩)) (⟨ b ⟩ ⊗ (⟨ a ⟩ ⊗ ⟨ c ⟩)) (omega arith)

gather : (c d m p : ℤ) → (c +ℤ d) *ℤ m +ℤ p ≡ c *ℤ m +ℤ (d *ℤ m +ℤ p)
gather c d m p = eq! ((⟨ c ⟩ ⊕ ⟨ d ⟩) ⊗ ⟨ m ⟩ ⊕ ⟨ p ⟩) (⟨ c ⟩ ⊗ ⟨ m ⟩ ⊕ (⟨ d ⟩ ⊗ ⟨ m ⟩ ⊕ ⟨ p ⟩)) (omega arith)

cross : (c d m n : ℤ) → (c *ℤ d) *ℤ (m *ℤ n) ≡ (c *ℤ m) *ℤ (d *ℤ n)
cross c d m n = *ℤ-assoc c d (m *ℤ n) ∙ ap (λ (x : ℤ). c *ℤ x) (swap_mul d m n) ∙ sym (*ℤ-assoc c m (d *ℤ n))

-- ---- expressions over numbered variables

pub data Expression : Type 0 where
  var : ℕ → Expression
  lit : ℤ → Expression
  add : Expression → Expression → Expression
  mul : Expression → Expression → Expression
  neg : Expression → Expression

abbrev pub variable : List ℤ → ℕ → ℤ
variable [] n = pos 0
variable (x ∷ xs) zero = x
variable (x ∷ xs) (suc n) = variable xs n

abbrev pub value : List ℤ → Expression → ℤ
value ρ (var n) = variable ρ n
value ρ (lit z) = z
value ρ (add a b) = value ρ a +ℤ value ρ b
value ρ (mul a b) = value ρ a *ℤ value ρ b
value ρ (neg a) = neg_ℤ (value ρ a)

-- ---- the normal form: a sum of monomials in order, each a coefficient and its variables in order

pub record Monomial : Type 0 where
  pub coefficient : ℤ
  pub variables : List ℕ

abbrev pub power : List ℤ → List ℕ → ℤ
power ρ [] = pos 1
power ρ (i ∷ m) = variable ρ i *ℤ power ρ m

abbrev pub total : List ℤ → List Monomial → ℤ
total ρ [] = pos 0
total ρ (t ∷ p) = t.coefficient *ℤ power ρ t.variables +ℤ total ρ p

abbrev pub insert : ℕ → List ℕ → List ℕ
insert i [] = i ∷ []
insert i (j ∷ m) = cond (leb i j) (i ∷ j ∷ m) (j ∷ insert i m)

abbrev pub merge : List ℕ → List ℕ → List ℕ
merge [] m = m
merge (i ∷ l) m = insert i (merge l m)

abbrev pub same : List ℕ → List ℕ → Bool
same [] [] = true
same [] (j ∷ m) = false
same (i ∷ l) [] = false
same (i ∷ l) (j ∷ m) = cond (eqb i j) (same l m) false

abbrev pub before : List ℕ → List ℕ → Bool
before [] [] = false
before [] (j ∷ m) = true
before (i ∷ l) [] = false
before (i ∷ l) (j ∷ m) = cond (eqb i j) (before l m) (ltb i j)

abbrev pub add_one : Monomial → List Monomial → List Monomial
add_one t [] = t ∷ []
add_one t (u ∷ p) =
    cond (same t.variables u.variables) (record { coefficient = t.coefficient +ℤ u.coefficient; variables = t.variables } ∷ p)
    (cond (before t.variables u.variables) (t ∷ u ∷ p) (u ∷ add_one t p))

abbrev pub add_all : List Monomial → List Monomial → List Monomial
add_all [] q = q
add_all (t ∷ p) q = add_one t (add_all p q)

abbrev pub mul_one : Monomial → List Monomial → List Monomial
mul_one t [] = []
mul_one t (u ∷ p) = add_one (record { coefficient = t.coefficient *ℤ u.coefficient; variables = merge t.variables u.variables }) (mul_one t p)

abbrev pub mul_all : List Monomial → List Monomial → List Monomial
mul_all [] q = []
mul_all (t ∷ p) q = add_all (mul_one t q) (mul_all p q)

abbrev pub is_zero : ℤ → Bool
is_zero (pos n) = eqb n 0
is_zero (negsuc n) = false

abbrev pub drop_zeros : List Monomial → List Monomial
drop_zeros [] = []
drop_zeros (t ∷ p) = cond (is_zero t.coefficient) (drop_zeros p) (t ∷ drop_zeros p)

abbrev pub expand : Expression → List Monomial
expand (var n) = record { coefficient = pos 1; variables = n ∷ [] } ∷ []
expand (lit z) = record { coefficient = z; variables = [] } ∷ []
expand (add a b) = add_all (expand a) (expand b)
expand (mul a b) = mul_all (expand a) (expand b)
expand (neg a) = mul_one (record { coefficient = negsuc 0; variables = [] }) (expand a)

abbrev pub normal : Expression → List Monomial
normal e = drop_zeros (expand e)

-- ---- each step keeps the value

module _ (ρ : List ℤ) where
  insert-is : (i : ℕ) (m : List ℕ) → power ρ (insert i m) ≡ variable ρ i *ℤ power ρ m
  insert-is i [] = refl
  insert-is i (j ∷ m) =
      pick (leb i j) (i ∷ j ∷ m) (j ∷ insert i m) (λ l. power ρ l ≡ variable ρ i *ℤ (variable ρ j *ℤ power ρ m)) (λ e. refl)
      (λ e. ap (λ (x : ℤ). variable ρ j *ℤ x) (insert-is i m) ∙ swap_mul (variable ρ j) (variable ρ i) (power ρ m))

  merge-is : (l m : List ℕ) → power ρ (merge l m) ≡ power ρ l *ℤ power ρ m
  merge-is [] m = sym (one-*ℤ (power ρ m))
  merge-is (i ∷ l) m = insert-is i (merge l m) ∙ ap (λ (x : ℤ). variable ρ i *ℤ x) (merge-is l m) ∙ sym (*ℤ-assoc (variable ρ i) (power ρ l) (power ρ m))

  same-is : (l m : List ℕ) → same l m ≡ true → power ρ l ≡ power ρ m
  same-is [] [] e = refl
  same-is [] (j ∷ m) e = absurd (is_true e)
  same-is (i ∷ l) [] e = absurd (is_true e)
  same-is (i ∷ l) (j ∷ m) e = by (eqb i j) refl (same-is l m) e
    where
      by : (b : Bool) → eqb i j ≡ b → (same l m ≡ true → power ρ l ≡ power ρ m) → cond b (same l m) false ≡ true → variable ρ i *ℤ power ρ l ≡ variable ρ j *ℤ power ρ m
      by true h r k = ap₂ ◌*ℤ◌ (ap (variable ρ) (eqb→eq i j (is_true h))) (r k)
      by false h r k = absurd (is_true k)

  add-one-is : (t : Monomial) (p : List Monomial) → total ρ (add_one t p) ≡ t.coefficient *ℤ power ρ t.variables +ℤ total ρ p
  add-one-is t [] = refl
  add-one-is t (u ∷ p) =
      let c = t.coefficient in
      let d = u.coefficient in
      let m = power ρ t.variables in
      let n = power ρ u.variables in
      pick (same t.variables u.variables) (record { coefficient = c +ℤ d; variables = t.variables } ∷ p) (cond (before t.variables u.variables) (t ∷ u ∷ p) (u ∷ add_one t p))
      (λ q. total ρ q ≡ c *ℤ m +ℤ (d *ℤ n +ℤ total ρ p))
      (λ e. gather c d m (total ρ p) ∙ ap (λ (x : ℤ). c *ℤ m +ℤ (d *ℤ x +ℤ total ρ p)) (same-is t.variables u.variables e))
      (λ e. pick (before t.variables u.variables) (t ∷ u ∷ p) (u ∷ add_one t p)
      (λ q. total ρ q ≡ c *ℤ m +ℤ (d *ℤ n +ℤ total ρ p))
      (λ k. refl) (λ k. ap (λ (x : ℤ). d *ℤ n +ℤ x) (add-one-is t p) ∙ swap_add (d *ℤ n) (c *ℤ m) (total ρ p)))

  add-all-is : (p q : List Monomial) → total ρ (add_all p q) ≡ total ρ p +ℤ total ρ q
  add-all-is [] q = sym (+ℤ_idl (total ρ q))
  add-all-is (t ∷ p) q =
      let m = t.coefficient *ℤ power ρ t.variables in
      add-one-is t (add_all p q) ∙ ap (λ (x : ℤ). m +ℤ x) (add-all-is p q) ∙ sym (+ℤ_assoc m (total ρ p) (total ρ q))

  mul-one-is : (t : Monomial) (p : List Monomial) → total ρ (mul_one t p) ≡ t.coefficient *ℤ power ρ t.variables *ℤ total ρ p
  mul-one-is t [] = sym (*ℤ_comm (t.coefficient *ℤ power ρ t.variables) (pos 0) ∙ zero-*ℤ (t.coefficient *ℤ power ρ t.variables))
  mul-one-is t (u ∷ p) =
      let c = t.coefficient in
      let d = u.coefficient in
      let m = power ρ t.variables in
      let n = power ρ u.variables in
      add-one-is (record { coefficient = c *ℤ d; variables = merge t.variables u.variables }) (mul_one t p)
      ∙ ap₂ ◌+ℤ◌ (ap (λ (x : ℤ). c *ℤ d *ℤ x) (merge-is t.variables u.variables) ∙ cross c d m n) (mul-one-is t p)
      ∙ sym (*ℤ-+ℤ (c *ℤ m) (d *ℤ n) (total ρ p))

  mul-all-is : (p q : List Monomial) → total ρ (mul_all p q) ≡ total ρ p *ℤ total ρ q
  mul-all-is [] q = sym (zero-*ℤ (total ρ q))
  mul-all-is (t ∷ p) q =
      add-all-is (mul_one t q) (mul_all p q) ∙ ap₂ ◌+ℤ◌ (mul-one-is t q) (mul-all-is p q)
      ∙ sym (+ℤ-*ℤ (t.coefficient *ℤ power ρ t.variables) (total ρ p) (total ρ q))

  is-zero : (z : ℤ) → is_zero z ≡ true → z ≡ pos 0
  is-zero (pos n) e = ap pos (eqb→eq n 0 (is_true e))
  is-zero (negsuc n) e = absurd (is_true e)

  drop-zeros-is : (p : List Monomial) → total ρ (drop_zeros p) ≡ total ρ p
  drop-zeros-is [] = refl
  drop-zeros-is (t ∷ p) =
      let m = power ρ t.variables in
      pick (is_zero t.coefficient) (drop_zeros p) (t ∷ drop_zeros p) (λ q. total ρ q ≡ t.coefficient *ℤ m +ℤ total ρ p)
      (λ e. drop-zeros-is p ∙ sym (ap (λ (c : ℤ). c *ℤ m +ℤ total ρ p) (is-zero t.coefficient e) ∙ ap (λ (x : ℤ). x +ℤ total ρ p) (zero-*ℤ m) ∙ +ℤ_idl (total ρ p)))
      (λ e. ap (λ (x : ℤ). t.coefficient *ℤ m +ℤ x) (drop-zeros-is p))

  expand-is : (e : Expression) → total ρ (expand e) ≡ value ρ e
  expand-is (var n) = eq! (nat 1 ⊗ (⟨ variable ρ n ⟩ ⊗ nat 1) ⊕ nat 0) ⟨ variable ρ n ⟩ (omega arith)
  expand-is (lit z) = eq! (⟨ z ⟩ ⊗ nat 1 ⊕ nat 0) ⟨ z ⟩ (omega arith)
  expand-is (add a b) = add-all-is (expand a) (expand b) ∙ ap₂ ◌+ℤ◌ (expand-is a) (expand-is b)
  expand-is (mul a b) = mul-all-is (expand a) (expand b) ∙ ap₂ ◌*ℤ◌ (expand-is a) (expand-is b)
  expand-is (neg a) =
      mul-one-is (record { coefficient = negsuc 0; variables = [] }) (expand a) ∙ ap (λ (x : ℤ). negsuc 0 *ℤ pos 1 *ℤ x) (expand-is a) ∙ sym (neg-as (value ρ a))

  normal-is : (e : Expression) → total ρ (normal e) ≡ value ρ e
  normal-is e = drop-zeros-is (expand e) ∙ expand-is e

-- ---- the expressions are read off an equation by `search polynomials`, over the variables that are listed

pub record Listed (ρ : List ℤ) (z : ℤ) : Type 0 where
  pub i : ℕ
  pub is : variable ρ i ≡ z

abbrev pub here : {z : ℤ} {ρ : List ℤ} → Listed (z ∷ ρ) z
here = record { i = zero; is = refl }

abbrev pub there : {y z : ℤ} {ρ : List ℤ} → Listed ρ z → Listed (y ∷ ρ) z
there v = record { i = suc v.i; is = v.is }

pub record Polynomial (ρ : List ℤ) (z : ℤ) : Type 0 where
  pub e : Expression
  pub is : value ρ e ≡ z

abbrev pub a-variable : {ρ : List ℤ} {z : ℤ} → Listed ρ z → Polynomial ρ z
a-variable v = record { e = var v.i; is = v.is }

abbrev pub a-literal : {ρ : List ℤ} (n : ℕ) → Polynomial ρ (pos n)
a-literal n = record { e = lit (pos n); is = refl }

abbrev pub a_sum : {ρ : List ℤ} {a b : ℤ} → Polynomial ρ a → Polynomial ρ b → Polynomial ρ (a +ℤ b)
a_sum A B = record { e = add A.e B.e; is = ap₂ ◌+ℤ◌ A.is B.is }

abbrev pub a-product : {ρ : List ℤ} {a b : ℤ} → Polynomial ρ a → Polynomial ρ b → Polynomial ρ (a *ℤ b)
a-product A B = record { e = mul A.e B.e; is = ap₂ ◌*ℤ◌ A.is B.is }

abbrev pub a-negation : {ρ : List ℤ} {a : ℤ} → Polynomial ρ a → Polynomial ρ (neg_ℤ a)
a-negation A = record { e = neg A.e; is = ap neg_ℤ A.is }

-- the two sides of an equation
pub record Sides (ρ : List ℤ) (a b : ℤ) : Type 0 where
  pub left : Polynomial ρ a
  pub right : Polynomial ρ b

abbrev pub sides : {ρ : List ℤ} {a b : ℤ} → Polynomial ρ a → Polynomial ρ b → Sides ρ a b
sides A B = record { left = A; right = B }

pub ruleset polynomials = (sides, a-literal, a_sum, a-product, a-negation, a-variable, here, there)

pub ring : {a b : ℤ} (ρ : List ℤ) (S : Sides ρ a b) → normal S.left.e ≡ normal S.right.e → a ≡ b
ring ρ S h = sym S.left.is ∙ sym (normal-is ρ S.left.e) ∙ ap (total ρ) h ∙ normal-is ρ S.right.e ∙ S.right.is

-- How often numbers stand in lists, and sums over the numbers below n.
use Rattle.std.proofs.Common.{◌≡◌, ℕ, zero, suc, ◌+◌, ◌*◌, ◌<◌, ◌≤◌, cond, eqb, ◌⊎◌, List, [], ◌∷◌, ◌++◌, length, sum_by, sym, refl, ap, ◌∙◌, ap₂, inl, inr, add-mul, one-mul, zero-mul, mul-one, arith}
use Rattle.std.proofs.lemmas.Bool.{eq-eqb, ne_eqb, cases_lt}
use Rattle.std.proofs.lemmas.List.Sums.{sum_by-cons}
use Rattle.announce.specs.Description.{times}
use Rattle.announce.specs.Reach.{onto}

-- 1 where the two are equal, else 0.
abbrev pub is : ℕ → ℕ → ℕ
is i j = cond (eqb i j) 1 0

pub is_same : (i : ℕ) → is i i ≡ 1
is_same i = ap (λ b. cond b 1 0) (eq-eqb i i refl)

pub is_other : (i j : ℕ) → (i ≡ j → ⊥) → is i j ≡ 0
is_other i j h = ap (λ b. cond b 1 0) (ne_eqb i j h)

pub times_append : (i : ℕ) (xs ys : List ℕ) → times i (xs ++ ys) ≡ times i xs + times i ys
times_append i [] ys = omega arith
times_append i (x ∷ xs) ys = omega (arith, times_append i xs ys)

pub times_onto : (i : ℕ) (ks xs : List ℕ) → times i (onto ks xs) ≡ times i ks + times i xs
times_onto i [] xs = omega arith
times_onto i (k ∷ ks) xs = omega (arith, times_onto i ks (k ∷ xs))

pub length_onto : (ks xs : List ℕ) → length (onto ks xs) ≡ length ks + length xs
length_onto [] xs = omega arith
length_onto (k ∷ ks) xs = omega (arith, length_onto ks (k ∷ xs))

-- The sum of f over the numbers below n.
abbrev pub total : (ℕ → ℕ) → ℕ → ℕ
total f zero = 0
total f (suc n) = total f n + f n

pub total_add : (f g : ℕ → ℕ) (n : ℕ) → total (λ i. f i + g i) n ≡ total f n + total g n
total_add f g zero = refl
total_add f g (suc n) = omega (arith, total_add f g n)

pub total_same : (f g : ℕ → ℕ) (n : ℕ) → ((i : ℕ) → i < n → f i ≡ g i) → total f n ≡ total g n
total_same f g zero h = refl
total_same f g (suc n) h = omega (arith, total_same f g n (λ i l. h i (omega arith)), h n (omega arith))

pub total_at_most : (f g : ℕ → ℕ) (n : ℕ) → ((i : ℕ) → i < n → f i ≤ g i) → total f n ≤ total g n
total_at_most f g zero h = omega arith
total_at_most f g (suc n) h = omega (arith, total_at_most f g n (λ i l. h i (omega arith)), h n (omega arith))

pub total_one : (n : ℕ) → total (λ _. 1) n ≡ n
total_one zero = refl
total_one (suc n) = omega (arith, total_one n)

pub sum_of_ones : (xs : List ℕ) → sum_by (λ _. 1) xs ≡ length xs
sum_of_ones [] = refl
sum_of_ones (x ∷ xs) = omega (arith, sum_by-cons {X = ℕ} (λ _. 1) x xs, sum_of_ones xs)

-- One number among those below n.
total_none : (f : ℕ → ℕ) (x n : ℕ) → n ≤ x → total (λ i. is i x * f i) n ≡ 0
total_none f x zero h = refl
total_none f x (suc n) h = rw (is_other n x (λ e. omega arith)) (omega (arith, total_none f x n (omega arith), zero-mul (f n)))

total_is : (f : ℕ → ℕ) (x n : ℕ) → x < n → total (λ i. is i x * f i) n ≡ f x
total_is f x zero h = absurd (omega arith)
total_is f x (suc n) h = go (cases_lt x n) (total_is f x n)
  where
    go : (x < n) ⊎ (n ≤ x) → (x < n → total (λ i. is i x * f i) n ≡ f x) → total (λ i. is i x * f i) n + is n x * f n ≡ f x
    go (inl l) ih = rw (is_other n x (λ e. omega arith)) (omega (arith, ih l, zero-mul (f n)))
    go (inr l) ih =
        let e : n ≡ x = omega arith in
        rw e (rw (is_same x) (omega (arith, total_none f x x (omega arith), one-mul (f x))))

-- A sum over a list whose numbers are below n, by how often each stands in it.
pub sum_by_total : (f : ℕ → ℕ) (xs : List ℕ) (n : ℕ) → ((i : ℕ) → n ≤ i → times i xs ≡ 0) → sum_by f xs ≡ total (λ i. times i xs * f i) n
sum_by_total f [] n h = sym (all_none n)
  where
    all_none : (n : ℕ) → total (λ i. 0 * f i) n ≡ 0
    all_none zero = refl
    all_none (suc n) = omega (arith, all_none n, zero-mul (f n))
sum_by_total f (x ∷ xs) n h =
    let small : x < n = go (cases_lt x n) in
    let rest = sum_by_total f xs n (λ i l. omega (arith, h i l)) in
    sum_by-cons f x xs ∙ sym (total_same (λ i. (is i x + times i xs) * f i) (λ i. is i x * f i + times i xs * f i) n (λ i l. add-mul (is i x) (times i xs) (f i)) ∙ total_add (λ i. is i x * f i) (λ i. times i xs * f i) n ∙ ap₂ (λ a b. a + b) (total_is f x n small) (sym rest))
  where
    go : (x < n) ⊎ (n ≤ x) → x < n
    go (inl l) = l
    go (inr l) = absurd (omega (arith, h x l, is_same x))

pub length_total : (xs : List ℕ) (n : ℕ) → ((i : ℕ) → n ≤ i → times i xs ≡ 0) → length xs ≡ total (λ i. times i xs) n
length_total xs n h = sym (sum_of_ones xs) ∙ sum_by_total (λ _. 1) xs n h ∙ total_same (λ i. times i xs * 1) (λ i. times i xs) n (λ i l. mul-one (times i xs))

-- So a list of numbers below n, none of them twice, has at most n.
pub few : (xs : List ℕ) (n : ℕ) → ((i : ℕ) → n ≤ i → times i xs ≡ 0) → ((i : ℕ) → times i xs ≤ 1) → length xs ≤ n
few xs n h once =
    omega (arith, length_total xs n h, total_at_most (λ i. times i xs) (λ _. 1) n (λ i l. once i), total_one n)

-- Where each number below n stands in it once, a sum over it is a sum over these.
pub sum_by_each : (f : ℕ → ℕ) (xs : List ℕ) (n : ℕ) → ((i : ℕ) → n ≤ i → times i xs ≡ 0) → ((i : ℕ) → i < n → times i xs ≡ 1) → sum_by f xs ≡ total f n
sum_by_each f xs n h once = sum_by_total f xs n h ∙ total_same (λ i. times i xs * f i) f n (λ i l. ap (λ k. k * f i) (once i l) ∙ one-mul (f i))

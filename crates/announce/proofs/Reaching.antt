-- One port after the other: its child is put on the stack and is reached.
use Rattle.std.proofs.Common.{◌≡◌, ℕ, ◌+◌, ◌<◌, ◌≤◌, Bool, true, false, not, ◌||◌, ltb, ◌⊎◌, List, ◌∷◌, length, get_or, set, sym, ap, ◌∙◌, inl, inr, arith}
use Rattle.std.proofs.lemmas.List.{get_or-set_same, get_or-set_other}
use Rattle.std.proofs.lemmas.List.Sums.{AllPass-from_list_all}
use Rattle.std.proofs.lemmas.Bool.{cases_eq, ltb-true}
use Rattle.selfid.specs.Packets.{bit}
use Rattle.announce.specs.declared.described.RowPort.{RowPort}
use Rattle.announce.specs.Description.{is_down, times}
use Rattle.announce.specs.Reach.{children, onto, hit, child_below, ChildrenBelow, Waiting}
use Rattle.announce.proofs.Times.{is, is_same, is_other, few}

-- With these ports left, what will wait and be reached in the end is what it is for all ports from the start.
pub record HalfReached (n : ℕ) (left ports : List RowPort) (held : List ℕ) (reached : List Bool) (held₀ : List ℕ) (reached₀ : List Bool) : Type 0 where
  pub waiting : Waiting n held reached
  pub stack : onto (children left) held ≡ onto (children ports) held₀
  pub hits : (i : ℕ) → hit reached i + times i (children left) ≡ hit reached₀ i + times i (children ports)

-- The child of a down port is one of the rows.
pub child_small : (n : ℕ) (ports : List RowPort) (i : ℕ) (d : RowPort) → ChildrenBelow n ports → i < length ports → is_down (get_or ports i d) ≡ true → (get_or ports i d).child < n
child_small n ports i d all h down =
    let p = get_or ports i d in
    let e : child_below n p ≡ true = AllPass-from_list_all (child_below n) ports all i d h in
    let f : (not true || ltb p.child n) ≡ true = ap (λ b. not b || ltb p.child n) (sym down) ∙ e in
    ltb-true p.child n f

-- A row that was not reached is reached now.
pub hit_more : (reached : List Bool) (k i : ℕ) → k < length reached → hit reached k ≡ 0 → hit (set reached k true) i ≡ hit reached i + is i k
hit_more reached k i h z = go (cases_eq i k)
  where
    go : (i ≡ k) ⊎ (i ≡ k → ⊥) → hit (set reached k true) i ≡ hit reached i + is i k
    go (inl e) = rw e (omega (arith, z, is_same k, ap bit (get_or-set_same reached k true false h)))
    go (inr n) = omega (arith, is_other i k n, ap bit (get_or-set_other reached k i true false n))

pub hit_small : (reached : List Bool) (i : ℕ) → hit reached i ≤ 1
hit_small reached i = go (get_or reached i false)
  where
    go : (b : Bool) → bit b ≤ 1
    go true = omega arith
    go false = omega arith

module _ (n : ℕ) (p : RowPort) (left ports : List RowPort) (held : List ℕ) (reached : List Bool) (held₀ : List ℕ) (reached₀ : List Bool) (h : HalfReached n (p ∷ left) ports held reached held₀ reached₀) where
  module _ (down : is_down p ≡ true) where
    -- it was not: there is room for it, and it waits
    module _ (small : p.child < n) (new : hit reached p.child ≡ 0) (len : n ≤ length reached) where
      waits : Waiting n (p.child ∷ held) (set reached p.child true)
      waits =
          record {
            once = λ i. omega (arith, h.waiting.once i, hit_more reached p.child i (omega arith) new);
            rows_only = λ i l. omega (arith, h.waiting.rows_only i l, hit_more reached p.child i (omega arith) new, is_other i p.child (λ e. omega arith));
          }

      pub has_room : length held < n
      has_room =
          few (p.child ∷ held) n
          (λ i l. omega (arith, waits.once i, waits.rows_only i l))
          (λ i. omega (arith, waits.once i, hit_small (set reached p.child true) i))

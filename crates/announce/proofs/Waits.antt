-- The walk that reaches all rows: what holds while rows wait, and that it ends.
use Rattle.std.proofs.Common.{◌≡◌, ℕ, zero, suc, ◌+◌, ◌-◌, ◌<◌, ◌≤◌, Bool, true, false, not, ◌||◌, ltb, ◌⊎◌, List, [], ◌∷◌, length, get_or, replicate, sym, refl, ap, ◌∙◌, inl, inr, arith}
use Rattle.std.proofs.lemmas.Bool.{cases_Bool, cases_lt, and_parts, ltb-true}
use Rattle.selfid.specs.Packets.{bit}
use Rattle.selfid.specs.Cabling.{Cabling}
use Rattle.announce.specs.declared.described.Row.{Row}
use Rattle.announce.specs.declared.described.RowPort.{RowPort}
use Rattle.std.specs.List.{list_all}
use Rattle.announce.specs.Description.{is_down, Describes, times}
use Rattle.announce.specs.Reach.{children, onto, hit, child_below, ChildrenBelow, Waiting, ReachedRows, WellFormed}
use Rattle.announce.proofs.Times.{is, is_same, is_other, times_onto, length_onto, total, total_add, total_same, length_total}
use Rattle.announce.proofs.Forests.{children_other, children_down, Reach, start, step, come_to, done}
use Rattle.announce.proofs.Reaching.{hit_small}
use Rattle.announce.proofs.Told.{ports_here, ready, children_here}

-- How many of n rows are not reached yet.
abbrev pub unreached : ℕ → List Bool → ℕ
unreached n reached = total (λ i. 1 - hit reached i) n

pub record Walking (rows : List Row) (waiting : List ℕ) (reached : List Bool) : Type 0 where
  pub once : Waiting (length rows) waiting reached
  pub reach : Reach rows waiting (hit reached)

-- The children are rows.
no_more : (n : ℕ) (ports : List RowPort) → ChildrenBelow n ports → (i : ℕ) → n ≤ i → times i (children ports) ≡ 0
no_more n [] all i h = refl
no_more n (p ∷ rest) all i h =
    let (here, others) = and_parts (child_below n p) (list_all (child_below n) rest) all in
    go (cases_Bool (is_down p)) here (no_more n rest others i h)
  where
    go : (is_down p ≡ true) ⊎ (is_down p ≡ false) → child_below n p ≡ true → times i (children rest) ≡ 0 → times i (children (p ∷ rest)) ≡ 0
    go (inl e) b ih =
        let f : (not true || ltb p.child n) ≡ true = ap (λ t. not t || ltb p.child n) (sym e) ∙ b in
        rw (children_down p rest e) (omega (arith, ih, is_other i p.child (λ z. omega (arith, ltb-true p.child n f))))
    go (inr o) b ih = rw (children_other p rest o) ih

-- A row that waits is a row.
pub next_small : (n i : ℕ) (js : List ℕ) (reached : List Bool) → Waiting n (i ∷ js) reached → i < n
next_small n i js reached w = go (cases_lt i n)
  where
    go : (i < n) ⊎ (n ≤ i) → i < n
    go (inl l) = l
    go (inr l) = absurd (omega (arith, w.once i, w.rows_only i l, is_same i))

module _ (rows : List Row) (i : ℕ) (d : Row) (js : List ℕ) (reached after : List Bool) (order : WellFormed rows) (w : Walking rows (i ∷ js) reached) where
  abbrev ports : List RowPort
  ports = (get_or rows i d).ports

  small : i < length rows
  small = next_small (length rows) i js reached w.once

  -- the row that was taken off waits no more
  pub taken_off : Waiting (length rows) js reached
  taken_off = record { once = λ k. omega (arith, w.once.once k); rows_only = w.once.rows_only }

  pub its_children : ChildrenBelow (length rows) ports
  its_children = children_here rows i d order.in_range small

  module _ (hits : (k : ℕ) → hit after k ≡ hit reached k + times k (children ports)) where
    pub put_on : Walking rows (onto (children ports) js) after
    put_on =
        let e = ports_here rows i d small in
        record {
          once =
              record {
                once = λ k. omega (arith, hits k, w.once.once k, times_onto k (children ports) js);
                rows_only = λ k h. omega (arith, hits k, w.once.rows_only k h, no_more (length rows) ports its_children k h);
              };
          reach = rw (← e) (step rows i js (hit reached) (hit after) (ready rows i d order.in_range small) (λ k. rw e (hits k)) w.reach);
        }

    pub falls : unreached (length rows) after + length (onto (children ports) js) < unreached (length rows) reached + length (i ∷ js)
    falls =
        let n = length rows in
        let ks = children ports in
        let each = total_same (λ k. (1 - hit after k) + times k ks) (λ k. 1 - hit reached k) n (λ k l. omega (arith, hits k, hit_small after k)) in
        omega (arith, each, total_add (λ k. 1 - hit after k) (λ k. times k ks) n, length_total ks n (no_more n ports its_children), length_onto ks js)

  -- a row that is reached twice is in no cabling
  pub no_cabling : (k : ℕ) → k < length rows → 2 ≤ hit reached k + times k (children ports) → (c : Cabling) → Describes rows c → ⊥
  no_cabling k l two c t =
      omega (arith, two, t.each_once k l, rw (ports_here rows i d small) at (come_to rows i js (hit reached) w.reach c t.root k))

-- Row 0 waits first.
none_set : (m k : ℕ) → get_or (replicate m false) k false ≡ false
none_set zero k = refl
none_set (suc m) zero = refl
none_set (suc m) (suc k) = none_set m k

first_hit : (m k : ℕ) → hit (true ∷ replicate m false) k ≡ is k 0
first_hit m zero = refl
first_hit m (suc k) = ap bit (none_set m k) ∙ sym (is_other (suc k) 0 (λ e. omega arith))

pub begun : (rows : List Row) → 1 ≤ length rows → Walking rows (0 ∷ []) (true ∷ replicate 62 false)
begun rows some =
    record {
      once = record { once = λ k. omega (arith, first_hit 62 k); rows_only = λ k h. omega (arith, first_hit 62 k, is_other k 0 (λ e. omega arith)) };
      reach = start rows (hit (true ∷ replicate 62 false)) (first_hit 62);
    }

-- When none waits, all that can be reached is.
pub ended : (rows : List Row) (reached : List Bool) → Walking rows [] reached → ReachedRows rows reached
ended rows reached w =
    let g = w.reach.grow [] tt in
    record { cabling = g.cabling; describes = g.describes; counts = done rows (hit reached) w.reach }

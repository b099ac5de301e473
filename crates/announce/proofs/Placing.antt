-- Rows that are each reached once, with the up marks that are due, describe a proper cabling; and no other rows do.
use Rattle.std.proofs.Common.{◌≡◌, ℕ, zero, suc, ◌+◌, ◌<◌, ◌≤◌, Bool, true, false, ◌&&◌, ◌==◌, ◌⊎◌, MatchBool, List, [], ◌∷◌, length, get_or, sym, refl, ap, ap₂, ◌∙◌, zero-add, inl, inr, arith}
use Rattle.std.specs.List.{zip, enumerate_from, AllWithin, HoldsAt}
use Rattle.std.proofs.lemmas.Bool.{cases_eq, cases_lt, and_parts, and_from, eqb-true, eq-eqb, both_ways}
use Rattle.std.proofs.lemmas.List.FromFn.{length-enumerate_from, get_or-enumerate_from}
use Rattle.std.proofs.lemmas.Slice.Zip.{length-zip, get_or-zip}
use Rattle.selfid.specs.Packets.{bit}
use Rattle.selfid.specs.Cabling.{Cabling, node, Ports, end, plain, down, size, Sound, SoundBelow, Proper}
use Rattle.announce.specs.declared.described.Row.{Row}
use Rattle.announce.specs.declared.described.RowPort.{RowPort}
use Rattle.announce.specs.Description.{ports_at, DescribesAt, DescribePorts, rows_of, rows_below, times, Describes}
use Rattle.announce.specs.Reach.{ReachedRows, WellFormed, ups_of, ups_due, Placed}
use Rattle.announce.proofs.Times.{is, is_same, is_other, times_append, total_same, total_one, length_total}
use Rattle.announce.proofs.Forests.{under, times_rows}
use Rattle.announce.proofs.Told.{no_row, ports_here}
use Rattle.announce.proofs.Trees.{row_small, length_told, ups_told, rows_small, rows_size}

-- A row that is not row 0 is due one up mark.
due_one : (k : ℕ) → is 0 k ≡ 0 → ups_due k ≡ 1
due_one zero e = absurd (omega (arith, is_same 0))
due_one (suc k) e = refl

module _ (rows : List Row) (order : WellFormed rows) (due : (i : ℕ) → i < length rows → ups_of (ports_at rows i) ≡ ups_due i) where
  mutual
    sound_at : (c : Cabling) (i : ℕ) → DescribesAt rows i c → times 0 (under rows i c) ≡ 0 → Sound (ups_due i) c
    sound_at (node x ps) i d none =
        let ports = ports_at rows i in
        let small = row_small rows i x d.0 in
        (length_told rows ps ports d.1 ∙ order.all_ports i small, ups_told rows ps ports d.1 ∙ due i small, sound_below ps ports d.1 none)

    sound_below : (ps : Ports) (ports : List RowPort) → DescribePorts rows ps ports → times 0 (rows_below rows ps ports) ≡ 0 → SoundBelow ps
    sound_below end ports d none = tt
    sound_below (plain k ps) [] d none = absurd d
    sound_below (plain k ps) (p ∷ rest) d none = sound_below ps rest d.1 none
    sound_below (down c ps) [] d none = absurd d
    sound_below (down c ps) (p ∷ rest) d none =
        let i = p.child in
        let both = times_append 0 (rows_of rows i c) (rows_below rows ps rest) in
        let here = times_rows rows 0 i c in
        (rw (due_one i (omega arith)) at (sound_at c i d.1 (omega arith)), sound_below ps rest d.2 (omega arith))

-- As many nodes as rows.
pub size_told : (rows : List Row) (c : Cabling) → Describes rows c → size c ≡ length rows
size_told rows c t =
    let all = rows_of rows 0 c in
    let n = length rows in
    sym (rows_size rows c 0 t.root) ∙ length_total all n (rows_small rows c 0 t.root) ∙ total_same (λ i. times i all) (λ _. 1) n t.each_once ∙ total_one n

-- What is looked at of a row, its number and whether it is reached.
abbrev pub is_placed : ℕ × (Row × Bool) → Bool
is_placed p = p.1.1 && (ups_of p.1.0.ports == ups_due p.0)

module _ (rows : List Row) (reached : List Bool) (enough : length rows ≤ length reached) where
  abbrev pub looked_at : List (ℕ × (Row × Bool))
  looked_at = enumerate_from 0 (zip rows reached)

  each_looked_at : length looked_at ≡ length rows
  each_looked_at = length-enumerate_from 0 (zip rows reached) ∙ length-zip rows reached ∙ omega arith

  at_row : (i : ℕ) (d : ℕ × (Row × Bool)) → i < length rows → get_or looked_at i d ≡ (i, (get_or rows i d.1.0, get_or reached i d.1.1))
  at_row i d h =
      get_or-enumerate_from 0 (zip rows reached) i d (omega (arith, length-zip rows reached))
      ∙ ap₂ (λ a b. (a, b)) (zero-add i) (get_or-zip rows reached i d.1 h (omega arith))

  set_bit : (b : Bool) → bit b ≡ 1 → b ≡ true
  set_bit true e = refl
  set_bit false e = absurd (omega arith)

  -- each row is placed, or one is not
  pub placed_or_not : (r : Bool) → MatchBool r (AllWithin (λ p. is_placed p ≡ true) looked_at 0 (length looked_at)) ((k : ℕ) × (k < length looked_at) × HoldsAt (λ p. is_placed p ≡ false) looked_at k) → MatchBool r ((i : ℕ) → i < length rows → Placed rows reached i) ((i : ℕ) × (i < length rows) × (Placed rows reached i → ⊥))
  placed_or_not true all = λ i h.
      let passes = rw (at_row i (0, (no_row, false)) h) at (all i (0, (no_row, false)) (omega arith) (omega (arith, each_looked_at))) in
      let (hit, ups) = and_parts (get_or reached i false) (ups_of (get_or rows i no_row).ports == ups_due i) passes in
      (ap bit hit, ap ups_of (ports_here rows i no_row h) ∙ eqb-true _ _ ups)
  placed_or_not false (i, h, fails) =
      let small : i < length rows = omega (arith, each_looked_at) in
      let no = rw (at_row i (0, (no_row, false)) small) at (fails (0, (no_row, false))) in (
        i,
        small,
        λ placed. both_ways _ no (and_from (get_or reached i false) _ (set_bit _ placed.0) (eq-eqb _ _ (ap ups_of (sym (ports_here rows i no_row small)) ∙ placed.1))),
      )

-- All rows are placed: what row 0 describes is described by the rows, and is proper.
pub all_placed : (rows : List Row) (reached : List Bool) → WellFormed rows → (all : ReachedRows rows reached) → ((i : ℕ) → i < length rows → Placed rows reached i) → Describes rows all.cabling × Proper all.cabling
all_placed rows reached order all placed = (told, record { sound = sound; few = omega (arith, size_told rows c told, order.few) })
  where
    c : Cabling
    c = all.cabling

    told : Describes rows all.cabling
    told = record { root = all.describes; each_once = λ i h. all.counts all.cabling all.describes i ∙ (placed i h).0 }

    sound : Sound 0 all.cabling
    sound =
        sound_at rows order (λ i h. (placed i h).1) all.cabling 0 all.describes
        (omega (arith, told.each_once 0 order.some, times_rows rows 0 0 all.cabling, is_same 0))

-- The up marks of the rows of a sound cabling.
module _ (rows : List Row) where
  ups_at : (c : Cabling) (i n : ℕ) → DescribesAt rows i c → Sound n c → ups_of (ports_at rows i) ≡ n
  ups_at (node x ps) i n d s = sym (ups_told rows ps (ports_at rows i) d.1) ∙ s.1

  -- row j is the topmost one, or one of those below it, or one of the others
  one_of : (i j under others : ℕ) → 1 ≤ is j i + under + others → ups_of (ports_at rows i) ≡ 1 → (1 ≤ under → ups_of (ports_at rows j) ≡ 1) → (1 ≤ others → ups_of (ports_at rows j) ≡ 1) → ups_of (ports_at rows j) ≡ 1
  one_of i j under others h top below else = go (cases_eq j i) (cases_lt 0 under)
    where
      go : (j ≡ i) ⊎ (j ≡ i → ⊥) → (0 < under) ⊎ (under ≤ 0) → ups_of (ports_at rows j) ≡ 1
      go (inl e) b = rw e top
      go (inr n) (inl l) = below l
      go (inr n) (inr l) = else (omega (arith, is_other j i n))

  mutual
    ups_under : (c : Cabling) (i n j : ℕ) → DescribesAt rows i c → Sound n c → 1 ≤ times j (under rows i c) → ups_of (ports_at rows j) ≡ 1
    ups_under (node x ps) i n j d s h = ups_below ps (ports_at rows i) j d.1 s.2 h

    ups_below : (ps : Ports) (ports : List RowPort) (j : ℕ) → DescribePorts rows ps ports → SoundBelow ps → 1 ≤ times j (rows_below rows ps ports) → ups_of (ports_at rows j) ≡ 1
    ups_below end ports j d s h = absurd (omega arith)
    ups_below (plain k ps) [] j d s h = absurd d
    ups_below (plain k ps) (p ∷ rest) j d s h = ups_below ps rest j d.1 s h
    ups_below (down c ps) [] j d s h = absurd d
    ups_below (down c ps) (p ∷ rest) j d s h =
        one_of p.child j (times j (under rows p.child c)) (times j (rows_below rows ps rest))
        (omega (arith, times_append j (rows_of rows p.child c) (rows_below rows ps rest), times_rows rows j p.child c))
        (ups_at c p.child 1 d.1 s.0)
        (λ l. ups_under c p.child 1 j d.1 s.0 l)
        (λ l. ups_below ps rest j d.2 s.1 l)

  -- Every row has the up marks that are due.
  ups_right : (c : Cabling) → Describes rows c → Proper c → (i : ℕ) → i < length rows → ups_of (ports_at rows i) ≡ ups_due i
  ups_right c t p zero h = ups_at c 0 0 t.root p.sound
  ups_right c t p (suc i) h =
      ups_under c 0 0 (suc i) t.root p.sound (omega (arith, t.each_once (suc i) h, times_rows rows (suc i) 0 c, is_other (suc i) 0 (λ e. omega arith)))

-- A row is misplaced: the rows describe no proper cabling.
pub misplaced : (rows : List Row) (reached : List Bool) → ReachedRows rows reached → (i : ℕ) → i < length rows → (Placed rows reached i → ⊥) → (c : Cabling) → Describes rows c → Proper c → ⊥
misplaced rows reached all i h out c t p = out (sym (all.counts c t.root i) ∙ t.each_once i h, ups_right rows c t p i h)

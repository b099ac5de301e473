-- What rows tell of the cabling that they describe.
use Rattle.std.proofs.Common.{◌≡◌, ℕ, suc, ◌+◌, ◌<◌, ◌≤◌, cond, eqb, ◌⊎◌, List, [], ◌∷◌, length, Some, None, Option, sym, refl, ap, ◌∙◌, ap₂, inl, inr, arith, length-append}
use Rattle.std.specs.List.{slice_get}
use Rattle.std.proofs.lemmas.List.{length-map}
use Rattle.std.proofs.lemmas.List.Sums.{sum_by-cons}
use Rattle.std.proofs.lemmas.Option.{slice_get_past}
use Rattle.std.proofs.lemmas.Bool.{cases_lt}
use Rattle.selfid.specs.declared.node.Fields.{Fields}
use Rattle.selfid.specs.Marks.{mark_code, ups}
use Rattle.selfid.specs.Reading.{speed_in}
use Rattle.selfid.specs.Cabling.{Childless, absent, «open», up, childless_mark, Cabling, node, Ports, end, plain, down, marks_of, size, size_below}
use Rattle.selfid.proofs.Same.{same_fields}
use Rattle.selfid.proofs.Digits.{speed_back}
use Rattle.selfid.proofs.Tells.{head_code, tail_marks, leads_to_none, childless_known}
use Rattle.announce.specs.declared.described.Row.{Row}
use Rattle.announce.specs.declared.described.RowPort.{RowPort}
use Rattle.announce.specs.Description.{is_up, HasFields, FieldsAt, ports_at, DescribesAt, DescribePorts, rows_of, rows_below, times}
use Rattle.announce.specs.Announcing.{DescribeOneCabling}
use Rattle.announce.specs.Rows.{HaveMarks}
use Rattle.announce.specs.Reach.{ups_of}
use Rattle.announce.proofs.Marked.{same_codes}
use Rattle.announce.proofs.Times.{is_other, times_append}

-- The row that has these fields.
pub record RowHere (rows : List Row) (i : ℕ) (x : Fields) : Type 0 where
  pub row : Row
  pub found : slice_get rows i ≡ Some row
  pub has : HasFields row x

pub row_here : (rows : List Row) (i : ℕ) (x : Fields) → FieldsAt rows i x → RowHere rows i x
row_here rows i x h = let (r, e, f) = go (slice_get rows i) h in record { row = r; found = e; has = f }
  where
    go : (o : Option Row) → (elim o as (λ _. Type 0) [ None ↦ ⊥ | Some r ↦ HasFields r x ]) → (r : Row) × (o ≡ Some r) × HasFields r x
    go None h = absurd h
    go (Some r) h = (r, refl, h)

pub row_small : (rows : List Row) (i : ℕ) (x : Fields) → FieldsAt rows i x → i < length rows
row_small rows i x h = go (cases_lt i (length rows))
  where
    go : (i < length rows) ⊎ (length rows ≤ i) → i < length rows
    go (inl l) = l
    go (inr l) = let e = sym (slice_get_past rows i l) ∙ (row_here rows i x h).found in absurd (let z : ◌≡◌ {A = ℕ} 0 1 = cc in omega arith)

-- A row tells one list of fields.
same_told : (r : Row) (x y : Fields) → HasFields r x → HasFields r y → x ≡ y
same_told r x y f g =
    same_fields x y
    (sym f.link ∙ g.link)
    (sym f.contender ∙ g.contender)
    (sym f.initiator ∙ g.initiator)
    (sym f.gap ∙ g.gap)
    (sym (speed_back x.speed) ∙ ap speed_in (sym f.speed ∙ g.speed) ∙ speed_back y.speed)
    (sym f.power ∙ g.power)

pub one_fields : (rows : List Row) (i : ℕ) (x y : Fields) → FieldsAt rows i x → FieldsAt rows i y → x ≡ y
one_fields rows i x y f g =
    let a = row_here rows i x f in
    let b = row_here rows i y g in
    let e : Some a.row ≡ Some b.row = sym a.found ∙ b.found in
    let same : a.row ≡ b.row = cc in
    same_told b.row x y (rw same at a.has) b.has

-- The marks of ports that are described.
pub marks_told : (rows : List Row) (ps : Ports) (ports : List RowPort) → DescribePorts rows ps ports → HaveMarks ports (marks_of ps)
marks_told rows end [] d = refl
marks_told rows end (p ∷ rest) d = absurd d
marks_told rows (plain k ps) [] d = absurd d
marks_told rows (plain k ps) (p ∷ rest) d = ap₂ (λ a b. a ∷ b) d.0 (marks_told rows ps rest d.1)
marks_told rows (down c ps) [] d = absurd d
marks_told rows (down c ps) (p ∷ rest) d = ap₂ (λ a b. a ∷ b) d.0 (marks_told rows ps rest d.2)

pub length_told : (rows : List Row) (ps : Ports) (ports : List RowPort) → DescribePorts rows ps ports → length (marks_of ps) ≡ length ports
length_told rows ps ports d = sym (length-map (marks_of ps) mark_code) ∙ ap length (sym (marks_told rows ps ports d)) ∙ length-map ports (λ p. p.mark)

counts_up : (p : RowPort) (m : ℕ) → p.mark ≡ m → ◌≡◌ {A = ℕ} (cond (eqb p.mark 2) 1 0) (cond (eqb m 2) 1 0)
counts_up p m e = ap (λ n. cond (eqb n 2) 1 0) e

ups_plain : (k : Childless) (ps : Ports) → ups (marks_of (plain k ps)) ≡ cond (eqb (mark_code (childless_mark k)) 2) 1 0 + ups (marks_of ps)
ups_plain absent ps = omega arith
ups_plain «open» ps = omega arith
ups_plain up ps = omega arith

pub ups_told : (rows : List Row) (ps : Ports) (ports : List RowPort) → DescribePorts rows ps ports → ups (marks_of ps) ≡ ups_of ports
ups_told rows end [] d = refl
ups_told rows end (p ∷ rest) d = absurd d
ups_told rows (plain k ps) [] d = absurd d
ups_told rows (plain k ps) (p ∷ rest) d =
    ups_plain k ps ∙ ap₂ (λ a b. a + b) (sym (counts_up p (mark_code (childless_mark k)) d.0)) (ups_told rows ps rest d.1) ∙ sym (sum_by-cons (λ q. cond (is_up q) 1 0) p rest)
ups_told rows (down c ps) [] d = absurd d
ups_told rows (down c ps) (p ∷ rest) d = omega (arith, counts_up p 3 d.0, ups_told rows ps rest d.2, sum_by-cons (λ q. cond (is_up q) 1 0) p rest)

module _ (rows : List Row) where
  -- The rows of a cabling are rows, as many as it has nodes.
  mutual
    pub rows_small : (c : Cabling) (i : ℕ) → DescribesAt rows i c → (j : ℕ) → length rows ≤ j → times j (rows_of rows i c) ≡ 0
    rows_small (node x ps) i d j h = omega (arith, is_other j i (λ e. omega (arith, row_small rows i x d.0)), rows_small_below ps (ports_at rows i) d.1 j h)

    rows_small_below : (ps : Ports) (ports : List RowPort) → DescribePorts rows ps ports → (j : ℕ) → length rows ≤ j → times j (rows_below rows ps ports) ≡ 0
    rows_small_below end [] d j h = refl
    rows_small_below end (p ∷ rest) d j h = refl
    rows_small_below (plain k ps) [] d j h = absurd d
    rows_small_below (plain k ps) (p ∷ rest) d j h = rows_small_below ps rest d.1 j h
    rows_small_below (down c ps) [] d j h = absurd d
    rows_small_below (down c ps) (p ∷ rest) d j h = omega (arith, times_append j (rows_of rows p.child c) (rows_below rows ps rest), rows_small c p.child d.1 j h, rows_small_below ps rest d.2 j h)

  mutual
    pub rows_size : (c : Cabling) (i : ℕ) → DescribesAt rows i c → length (rows_of rows i c) ≡ size c
    rows_size (node x ps) i d = ap suc (rows_size_below ps (ports_at rows i) d.1)

    rows_size_below : (ps : Ports) (ports : List RowPort) → DescribePorts rows ps ports → length (rows_below rows ps ports) ≡ size_below ps
    rows_size_below end [] d = refl
    rows_size_below end (p ∷ rest) d = refl
    rows_size_below (plain k ps) [] d = absurd d
    rows_size_below (plain k ps) (p ∷ rest) d = rows_size_below ps rest d.1
    rows_size_below (down c ps) [] d = absurd d
    rows_size_below (down c ps) (p ∷ rest) d = length-append (rows_of rows p.child c) (rows_below rows ps rest) ∙ ap₂ (λ a b. a + b) (rows_size c p.child d.1) (rows_size_below ps rest d.2)

  -- A row describes one cabling only.
  mutual
    pub cabling_one : (c d : Cabling) (i : ℕ) → DescribesAt rows i c → DescribesAt rows i d → c ≡ d
    cabling_one (node x ps) (node y qs) i f g =
        let ms = same_codes (marks_of ps) (marks_of qs) (sym (marks_told rows ps (ports_at rows i) f.1) ∙ marks_told rows qs (ports_at rows i) g.1) in
        ap₂ node (one_fields rows i x y f.0 g.0) (ports_one ps qs (ports_at rows i) ms f.1 g.1)

    ports_one : (ps qs : Ports) (ports : List RowPort) → marks_of ps ≡ marks_of qs → DescribePorts rows ps ports → DescribePorts rows qs ports → ps ≡ qs
    ports_one end end ports ms f g = refl
    ports_one end (plain j qs) ports ms f g = absurd (omega (arith, ap length ms))
    ports_one end (down d qs) ports ms f g = absurd (omega (arith, ap length ms))
    ports_one (plain k ps) end ports ms f g = absurd (omega (arith, ap length ms))
    ports_one (plain k ps) (plain j qs) [] ms f g = absurd f
    ports_one (plain k ps) (plain j qs) (p ∷ rest) ms f g = ap₂ plain (childless_known k j (head_code ms)) (ports_one ps qs rest (tail_marks ms) f.1 g.1)
    ports_one (plain k ps) (down d qs) ports ms f g = absurd (leads_to_none k (head_code ms))
    ports_one (down c ps) end ports ms f g = absurd (omega (arith, ap length ms))
    ports_one (down c ps) (plain j qs) ports ms f g = absurd (leads_to_none j (sym (head_code ms)))
    ports_one (down c ps) (down d qs) [] ms f g = absurd f
    ports_one (down c ps) (down d qs) (p ∷ rest) ms f g = ap₂ down (cabling_one c d p.child f.1 g.1) (ports_one ps qs rest (tail_marks ms) f.2 g.2)

pub describe_one_cabling : DescribeOneCabling
describe_one_cabling rows c d f g = cabling_one rows c d 0 f.root g.root

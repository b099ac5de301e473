-- Rows that wait, with the cablings that they describe: a node taken off makes room for its children.
use Rattle.std.proofs.Common.{◌≡◌, ℕ, zero, suc, ◌+◌, ◌<◌, ◌≤◌, true, false, cond, ltb, List, [], ◌∷◌, ◌++◌, sym, refl, ap, ◌∙◌, arith}
use Rattle.std.proofs.lemmas.Bool.{eq-eqb, ne_eqb, ltb-true, and_parts}
use Rattle.selfid.specs.declared.node.Fields.{Fields}
use Rattle.selfid.specs.Marks.{mark_code}
use Rattle.selfid.specs.Cabling.{Childless, absent, «open», up, childless_mark, Cabling, node, Ports, end, plain, down}
use Rattle.selfid.proofs.Tells.{leads_to_none}
use Rattle.announce.specs.declared.described.Row.{Row}
use Rattle.announce.specs.declared.described.RowPort.{RowPort}
use Rattle.std.specs.List.{list_all}
use Rattle.announce.specs.Description.{is_down, FieldsAt, ports_at, DescribesAt, DescribePorts, rows_of, rows_below, times}
use Rattle.announce.specs.Rows.{is_mark}
use Rattle.announce.specs.Reach.{children, onto}
use Rattle.announce.proofs.Times.{is, times_append}

-- Each of these rows describes the cabling at its place.
abbrev pub Forest : List Row → List ℕ → List Cabling → Type 0
Forest rows [] [] = Unit {0}
Forest rows [] (c ∷ cs) = ⊥
Forest rows (i ∷ is) [] = ⊥
Forest rows (i ∷ is) (c ∷ cs) = DescribesAt rows i c × Forest rows is cs

-- The rows of the nodes below the topmost one, and below all of these.
abbrev pub under : List Row → ℕ → Cabling → List ℕ
under rows i (node x ps) = rows_below rows ps (ports_at rows i)

abbrev pub below : List Row → List ℕ → List Cabling → List ℕ
below rows [] cs = []
below rows (i ∷ is) [] = []
below rows (i ∷ is) (c ∷ cs) = under rows i c ++ below rows is cs

pub times_rows : (rows : List Row) (k i : ℕ) (c : Cabling) → times k (rows_of rows i c) ≡ is k i + times k (under rows i c)
times_rows rows k i (node x ps) = refl

-- A port with the mark of one without a child is not down; one marked down is.
pub not_down : (k : Childless) (p : RowPort) → p.mark ≡ mark_code (childless_mark k) → is_down p ≡ false
not_down k p e = ne_eqb p.mark 3 (λ h. leads_to_none k (sym e ∙ h))

pub marked_down : (p : RowPort) → p.mark ≡ 3 → is_down p ≡ true
marked_down p e = eq-eqb p.mark 3 e

-- The children of a port that is not down, and of one that is.
pub children_other : (p : RowPort) (rest : List RowPort) → is_down p ≡ false → children (p ∷ rest) ≡ children rest
children_other p rest h = ap (λ b. cond b (p.child ∷ children rest) (children rest)) h

pub children_down : (p : RowPort) (rest : List RowPort) → is_down p ≡ true → children (p ∷ rest) ≡ p.child ∷ children rest
children_down p rest h = ap (λ b. cond b (p.child ∷ children rest) (children rest)) h

module _ (rows : List Row) where
  -- The cablings below some ports, each described by a child's row.
  pub record Hanging (is : List ℕ) (below_ports : List ℕ) : Type 0 where
    pub cablings : List Cabling
    pub forest : Forest rows is cablings
    pub counts : (k : ℕ) → times k below_ports ≡ times k is + times k (below rows is cablings)

  pub hanging : (ps : Ports) (ports : List RowPort) → DescribePorts rows ps ports → Hanging (children ports) (rows_below rows ps ports)
  hanging end [] d = record { cablings = []; forest = tt; counts = λ k. refl }
  hanging end (p ∷ rest) d = absurd d
  hanging (plain k ps) [] d = absurd d
  hanging (plain k ps) (p ∷ rest) d = rw (children_other p rest (not_down k p d.0)) (hanging ps rest d.1)
  hanging (down c ps) [] d = absurd d
  hanging (down c ps) (p ∷ rest) d =
      let h = hanging ps rest d.2 in
      rw (children_down p rest (marked_down p d.0))
      (record {
        cablings = c ∷ h.cablings;
        forest = (d.1, h.forest);
        counts = λ k. omega (arith, times_append k (rows_of rows p.child c) (rows_below rows ps rest), times_rows rows k p.child c, h.counts k, times_append k (under rows p.child c) (below rows (children rest) h.cablings));
      })

  -- Ports with these cablings hung below the down ports.
  pub record Hung (ports : List RowPort) (cs : List Cabling) : Type 0 where
    pub hung : Ports
    pub describe : DescribePorts rows hung ports
    pub counts : (k : ℕ) → times k (rows_below rows hung ports) ≡ times k (children ports) + times k (below rows (children ports) cs)

  -- A port that is not down is put before ports that are hung, and one that is.
  hang_plain : (k : Childless) (p : RowPort) (rest : List RowPort) (cs : List Cabling) → p.mark ≡ mark_code (childless_mark k) → Forest rows (children (p ∷ rest)) cs → (Forest rows (children rest) cs → Hung rest cs) → Hung (p ∷ rest) cs
  hang_plain k p rest cs m forest ih =
      let e = children_other p rest (not_down k p m) in
      let h = ih (rw e at forest) in
      record { hung = plain k h.hung; describe = (m, h.describe); counts = λ i. rw e (h.counts i) }

  hang_down : (p : RowPort) (rest : List RowPort) (cs : List Cabling) → p.mark ≡ 3 → Forest rows (p.child ∷ children rest) cs → ((cs : List Cabling) → Forest rows (children rest) cs → Hung rest cs) → Hung (p ∷ rest) cs
  hang_down p rest [] e forest ih = absurd forest
  hang_down p rest (c ∷ cs) e forest ih =
      let h = ih cs forest.1 in
      record {
        hung = down c h.hung;
        describe = (e, forest.0, h.describe);
        counts = λ k. rw (children_down p rest (marked_down p e)) (omega (arith, times_append k (rows_of rows p.child c) (rows_below rows h.hung rest), times_rows rows k p.child c, h.counts k, times_append k (under rows p.child c) (below rows (children rest) cs)));
      }

  hang_port : (m : ℕ) (p : RowPort) (rest : List RowPort) (cs : List Cabling) → p.mark ≡ m → m < 4 → Forest rows (children (p ∷ rest)) cs → ((cs : List Cabling) → Forest rows (children rest) cs → Hung rest cs) → Hung (p ∷ rest) cs
  hang_port zero p rest cs e l f ih = hang_plain absent p rest cs e f (ih cs)
  hang_port (suc zero) p rest cs e l f ih = hang_plain «open» p rest cs e f (ih cs)
  hang_port (suc (suc zero)) p rest cs e l f ih = hang_plain up p rest cs e f (ih cs)
  hang_port (suc (suc (suc zero))) p rest cs e l f ih = hang_down p rest cs e (rw (children_down p rest (marked_down p e)) at f) ih
  hang_port (suc (suc (suc (suc n)))) p rest cs e l f ih = absurd (omega arith)

  pub hang : (ports : List RowPort) (cs : List Cabling) → list_all is_mark ports ≡ true → Forest rows (children ports) cs → Hung ports cs
  hang [] [] e f = record { hung = end; describe = tt; counts = λ k. refl }
  hang [] (c ∷ cs) e f = absurd f
  hang (p ∷ rest) cs e f =
      let (first, others) = and_parts (ltb p.mark 4) (list_all is_mark rest) e in
      hang_port p.mark p rest cs refl (ltb-true p.mark 4 first) f (λ cs f. hang rest cs others f)

  -- Rows that were put on top of others, with the cablings that they describe.
  pub record Parted (ks js : List ℕ) (cs : List Cabling) : Type 0 where
    pub tops : List Cabling
    pub others : List Cabling
    pub tops_forest : Forest rows ks tops
    pub others_forest : Forest rows js others
    pub counts : (k : ℕ) → times k (below rows (onto ks js) cs) ≡ times k (below rows ks tops) + times k (below rows js others)

  part_more : (j : ℕ) (ks js : List ℕ) (cs tops others : List Cabling) → Forest rows ks tops → Forest rows (j ∷ js) others → ((k : ℕ) → times k (below rows (onto ks (j ∷ js)) cs) ≡ times k (below rows ks tops) + times k (below rows (j ∷ js) others)) → Parted (j ∷ ks) js cs
  part_more j ks js cs tops [] f g h = absurd g
  part_more j ks js cs tops (c ∷ others) f g h =
      record {
        tops = c ∷ tops;
        others = others;
        tops_forest = (g.0, f);
        others_forest = g.1;
        counts = λ k. omega (arith, h k, times_append k (under rows j c) (below rows js others), times_append k (under rows j c) (below rows ks tops));
      }

  pub part : (ks js : List ℕ) (cs : List Cabling) → Forest rows (onto ks js) cs → Parted ks js cs
  part [] js cs f = record { tops = []; others = cs; tops_forest = tt; others_forest = f; counts = λ k. omega arith }
  part (j ∷ ks) js cs f =
      let r = part ks (j ∷ js) cs f in
      part_more j ks js cs r.tops r.others r.tops_forest r.others_forest r.counts

  pub record Joined (ks js : List ℕ) (tops others : List Cabling) : Type 0 where
    pub all : List Cabling
    pub forest : Forest rows (onto ks js) all
    pub counts : (k : ℕ) → times k (below rows (onto ks js) all) ≡ times k (below rows ks tops) + times k (below rows js others)

  pub join : (ks js : List ℕ) (tops others : List Cabling) → Forest rows ks tops → Forest rows js others → Joined ks js tops others
  join [] js tops others f g = record { all = others; forest = g; counts = λ k. omega arith }
  join (j ∷ ks) js [] others f g = absurd f
  join (j ∷ ks) js (c ∷ tops) others f g =
      let r = join ks (j ∷ js) tops (c ∷ others) f.1 (f.0, g) in
      record {
        all = r.all;
        forest = r.forest;
        counts = λ k. omega (arith, r.counts k, times_append k (under rows j c) (below rows js others), times_append k (under rows j c) (below rows ks tops));
      }

-- What is known where these rows wait: cablings for them make one for row 0, and a cabling for row 0 gives one for each of them.
-- `reached` counts the rows that were come to so far.
pub record Grown (rows : List Row) (js : List ℕ) (reached : ℕ → ℕ) (cs : List Cabling) : Type 0 where
  pub cabling : Cabling
  pub describes : DescribesAt rows 0 cabling
  pub counts : (k : ℕ) → times k (rows_of rows 0 cabling) ≡ reached k + times k (below rows js cs)

pub record Shrunk (rows : List Row) (js : List ℕ) (reached : ℕ → ℕ) (c : Cabling) : Type 0 where
  pub cablings : List Cabling
  pub forest : Forest rows js cablings
  pub counts : (k : ℕ) → times k (rows_of rows 0 c) ≡ reached k + times k (below rows js cablings)

pub record Reach (rows : List Row) (js : List ℕ) (reached : ℕ → ℕ) : Type 0 where
  pub grow : (cs : List Cabling) → Forest rows js cs → Grown rows js reached cs
  pub shrink : (c : Cabling) → DescribesAt rows 0 c → Shrunk rows js reached c

-- Row i can be the row of a node.
pub record Ready (rows : List Row) (i : ℕ) : Type 0 where
  pub fields : Fields
  pub told : FieldsAt rows i fields
  pub marked : list_all is_mark (ports_at rows i) ≡ true

start_grown : (rows : List Row) (reached : ℕ → ℕ) → ((k : ℕ) → reached k ≡ is k 0) → (cs : List Cabling) → Forest rows (0 ∷ []) cs → Grown rows (0 ∷ []) reached cs
start_grown rows reached h [] f = absurd f
start_grown rows reached h (c ∷ []) f = record { cabling = c; describes = f.0; counts = λ k. omega (arith, times_rows rows k 0 c, h k, times_append k (under rows 0 c) []) }
start_grown rows reached h (c ∷ d ∷ cs) f = absurd f.1

pub start : (rows : List Row) (reached : ℕ → ℕ) → ((k : ℕ) → reached k ≡ is k 0) → Reach rows (0 ∷ []) reached
start rows reached h =
    record {
      grow = start_grown rows reached h;
      shrink = λ c d. record { cablings = c ∷ []; forest = (d, tt); counts = λ k. omega (arith, times_rows rows k 0 c, h k, times_append k (under rows 0 c) []) };
    }

-- Row i is taken off and its children are put on.
module _ (rows : List Row) (i : ℕ) (js : List ℕ) (reached after : ℕ → ℕ) where
  abbrev ks : List ℕ
  ks = children (ports_at rows i)

  grown_more : Ready rows i → ((k : ℕ) → after k ≡ reached k + times k ks) → Reach rows (i ∷ js) reached → (cs : List Cabling) → Forest rows (onto ks js) cs → Grown rows (onto ks js) after cs
  grown_more ready hits reach cs f =
      let p = part rows ks js cs f in
      let h = hang rows (ports_at rows i) p.tops ready.marked p.tops_forest in
      let g = reach.grow (node ready.fields h.hung ∷ p.others) ((ready.told, h.describe), p.others_forest) in
      record {
        cabling = g.cabling;
        describes = g.describes;
        counts = λ k. omega (arith, g.counts k, hits k, h.counts k, p.counts k, times_append k (rows_below rows h.hung (ports_at rows i)) (below rows js p.others));
      }

  shrunk_more : (c : Cabling) (cs : List Cabling) → ((k : ℕ) → after k ≡ reached k + times k ks) → Forest rows (i ∷ js) cs → ((k : ℕ) → times k (rows_of rows 0 c) ≡ reached k + times k (below rows (i ∷ js) cs)) → Shrunk rows (onto ks js) after c
  shrunk_more c [] hits f e = absurd f
  shrunk_more c (node x ps ∷ cs) hits f e =
      let h = hanging rows ps (ports_at rows i) f.0.1 in
      let j = join rows ks js h.cablings cs h.forest f.1 in
      record {
        cablings = j.all;
        forest = j.forest;
        counts = λ k. omega (arith, e k, hits k, h.counts k, j.counts k, times_append k (rows_below rows ps (ports_at rows i)) (below rows js cs));
      }

  pub step : Ready rows i → ((k : ℕ) → after k ≡ reached k + times k ks) → Reach rows (i ∷ js) reached → Reach rows (onto ks js) after
  step ready hits reach =
      record {
        grow = grown_more ready hits reach;
        shrink = λ c d. let s = reach.shrink c d in shrunk_more c s.cablings hits s.forest s.counts;
      }

-- A row that is come to twice stands twice among the rows of whatever row 0 describes.
pub come_to : (rows : List Row) (i : ℕ) (js : List ℕ) (reached : ℕ → ℕ) → Reach rows (i ∷ js) reached → (c : Cabling) → DescribesAt rows 0 c → (k : ℕ) → reached k + times k (children (ports_at rows i)) ≤ times k (rows_of rows 0 c)
come_to rows i js reached reach c d k =
    let s = reach.shrink c d in
    let r = shrunk_more rows i js reached (λ k. reached k + times k (children (ports_at rows i))) c s.cablings (λ k. refl) s.forest s.counts in
    omega (arith, r.counts k)

-- Once no row waits, the rows reached are those of the one cabling.
pub done : (rows : List Row) (reached : ℕ → ℕ) → Reach rows [] reached → (c : Cabling) → DescribesAt rows 0 c → (k : ℕ) → times k (rows_of rows 0 c) ≡ reached k
done rows reached reach c d k = let s = reach.shrink c d in omega (arith, s.counts k)

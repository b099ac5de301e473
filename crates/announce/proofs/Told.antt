-- Rows that are in range can be the rows of nodes.
use Rattle.std.proofs.Common.{◌≡◌, ℕ, ◌<◌, Bool, true, false, ◌&&◌, ltb, List, [], map, length, get_or, sym, refl, ap, ◌∙◌}
use Rattle.std.specs.List.{list_all}
use Rattle.std.proofs.lemmas.List.Sums.{AllPass-from_list_all, list_all-from_AllPass}
use Rattle.std.proofs.lemmas.Option.{slice_get-get_or}
use Rattle.std.proofs.lemmas.Bool.{and_from, and_parts, ltb-true}
use Rattle.selfid.specs.declared.node.Fields.{Fields}
use Rattle.selfid.specs.declared.node.Node.{Node}
use Rattle.selfid.specs.Reading.{speed_in}
use Rattle.selfid.proofs.Digits.{speed_again}
use Rattle.announce.specs.declared.described.Row.{Row}
use Rattle.announce.specs.Announcing.{port_in_range, row_in_range}
use Rattle.announce.specs.Description.{HasFields, FieldsAt, ports_at}
use Rattle.announce.specs.Rows.{has_codes, is_mark, HaveMarks, TellsNode}
use Rattle.announce.specs.Reach.{child_below, ChildrenBelow}
use Rattle.announce.proofs.Forests.{Ready}

-- A weaker test passes too.
all_weaker : {X : Type 0} (f g : X → Bool) (xs : List X) → ((x : X) → f x ≡ true → g x ≡ true) → list_all f xs ≡ true → list_all g xs ≡ true
all_weaker f g xs h e = list_all-from_AllPass g xs (λ k d l. h _ (AllPass-from_list_all f xs e k d l))

-- What is in range in a row.
pub record Ranges (n : ℕ) (r : Row) : Type 0 where
  pub gap : r.gap < 64
  pub speed : r.speed < 3
  pub power : r.power < 8
  pub marks : list_all is_mark r.ports ≡ true
  pub children : ChildrenBelow n r.ports

pub ranges : (n : ℕ) (r : Row) → row_in_range n r ≡ true → Ranges n r
ranges n r e =
    let (first, ports) = and_parts (ltb r.gap 64 && ltb r.speed 3 && ltb r.power 8) (list_all (port_in_range n) r.ports) e in
    let (two, p) = and_parts (ltb r.gap 64 && ltb r.speed 3) (ltb r.power 8) first in
    let (g, s) = and_parts (ltb r.gap 64) (ltb r.speed 3) two in
    record {
      gap = ltb-true r.gap 64 g;
      speed = ltb-true r.speed 3 s;
      power = ltb-true r.power 8 p;
      marks = all_weaker (port_in_range n) is_mark r.ports (λ q h. (and_parts (ltb q.mark 4) (child_below n q) h).0) ports;
      children = all_weaker (port_in_range n) (child_below n) r.ports (λ q h. (and_parts (ltb q.mark 4) (child_below n q) h).1) ports;
    }

-- So the row has codes.
pub codes_in_range : (n : ℕ) (r : Row) → row_in_range n r ≡ true → has_codes r ≡ true
codes_in_range n r e =
    let (first, ports) = and_parts (ltb r.gap 64 && ltb r.speed 3 && ltb r.power 8) (list_all (port_in_range n) r.ports) e in
    and_from (ltb r.gap 64 && ltb r.speed 3 && ltb r.power 8) (list_all is_mark r.ports) first (ranges n r e).marks

pub codes_here : (rows : List Row) (i : ℕ) (d : Row) → list_all (row_in_range (length rows)) rows ≡ true → i < length rows → has_codes (get_or rows i d) ≡ true
codes_here rows i d all h = codes_in_range (length rows) (get_or rows i d) (AllPass-from_list_all (row_in_range (length rows)) rows all i d h)

-- The row's fields.
fields_of : (n : ℕ) (r : Row) → Ranges n r → Fields
fields_of n r h =
    record {
      link = r.link;
      contender = r.contender;
      initiator = r.initiator;
      gap = r.gap;
      speed = speed_in r.speed;
      power = r.power;
      gap_in_range = h.gap;
      power_in_range = h.power;
    }

fields_told : (n : ℕ) (r : Row) (h : Ranges n r) → HasFields r (fields_of n r h)
unfolding fields_of
fields_told n r h = record { link = refl; contender = refl; initiator = refl; gap = refl; speed = sym (speed_again r.speed h.speed); power = refl }

-- What a read of a row behind the last would be.
abbrev pub no_row : Row
no_row = record { link = false; contender = false; initiator = false; gap = 0; speed = 0; power = 0; ports = [] }

-- Row i of the rows, and its ports.
pub ports_here : (rows : List Row) (i : ℕ) (d : Row) → i < length rows → ports_at rows i ≡ (get_or rows i d).ports
ports_here rows i d h = rw (slice_get-get_or rows i d h, ports_at)

pub node_here : (rows : List Row) (i : ℕ) (d : Row) (x : Node) → i < length rows → TellsNode (get_or rows i d) x → FieldsAt rows i x.fields × HaveMarks (ports_at rows i) x.marks
node_here rows i d x h t = (rw (slice_get-get_or rows i d h, FieldsAt) t.fields, ap (map (λ p. p.mark)) (ports_here rows i d h) ∙ t.marks)

pub ready : (rows : List Row) (i : ℕ) (d : Row) → list_all (row_in_range (length rows)) rows ≡ true → i < length rows → Ready rows i
ready rows i d all h =
    let r = get_or rows i d in
    let g = ranges (length rows) r (AllPass-from_list_all (row_in_range (length rows)) rows all i d h) in
    record {
      fields = fields_of (length rows) r g;
      told = rw (slice_get-get_or rows i d h, FieldsAt) (fields_told (length rows) r g);
      marked = rw (ports_here rows i d h) g.marks;
    }

pub children_here : (rows : List Row) (i : ℕ) (d : Row) → list_all (row_in_range (length rows)) rows ≡ true → i < length rows → ChildrenBelow (length rows) (get_or rows i d).ports
children_here rows i d all h = (ranges (length rows) (get_or rows i d) (AllPass-from_list_all (row_in_range (length rows)) rows all i d h)).children

-- What is seen of some quadlets can be computed, and nothing else is seen.
use Rattle.std.proofs.Common.{◌≡◌, ℕ, Bool, true, false, cond, eqb, List, [], ◌∷◌, ◌++◌, length, replicate, get_or, Some, None, Ok, Err, Option, sym, refl, ap, ◌∙◌, subst, inl, inr, arith}
use Rattle.std.proofs.lemmas.Bool.{eqb-true, eqb-false}
use Rattle.std.proofs.lemmas.List.{length-replicate}
use Rattle.selfid.specs.Packets.{inverse_of}
use Rattle.selfid.specs.Reading.{fields_in}
use Rattle.judging.specs.declared.flaw.Flaw.{Flaw}
use Rattle.judging.specs.declared.flaw.Flaw.TheVariants.{AlreadyWhole, NotInverse}
use Rattle.judging.specs.Beginnings.{Begins}
use Rattle.judging.specs.Standing.{packets_taken, inverse_due, under_way, nodes_finished, loose_count, marks_told, whole}
use Rattle.judging.specs.Stops.{flaw_number}
use Rattle.judging.specs.Tests.{Tested, Verdict, tests_due}
use Rattle.judging.proofs.Rebuilt.{as_many_nodes}
use Rattle.judging.proofs.Recognition.{whole_announced, announced_whole}
use Rattle.stops.specs.declared.Spoil.{Spoil}
use Rattle.stops.specs.declared.QuadletStop.TheVariants.{Flawed, Spoiled}
use Rattle.surveyexamples.specs.Stops.{Seen, bus_of, stopped}
use Rattle.survey.specs.declared.tree.Tree.{Tree}
use Rattle.survey.specs.Judging.{judged}
use Rattle.survey.specs.Nodes.{end_at, row_with}
use Rattle.survey.specs.Views.{gathered_with, nothing_offered, Shown}
use Rattle.survey.specs.Settling.{SettleCall}
use Rattle.survey.proofs.Judgement.{verdict_whole, verdict_inverse, verdict_not_inverse, verdict_packet}
use Rattle.survey.proofs.Settling.{nothing_begins}
use Rattle.survey.proofs.Verdicts.{packet_tested}
use Rattle.surveyexamples.specs.Examples.{seen_in, SeesFrom, Example, AllSeen}

-- There is one verdict on a quadlet.
one_answer : (ts : List Flaw) (qs : List ℕ) (q : ℕ) (v w : Option Flaw) → Tested ts qs q v → Tested ts qs q w → v ≡ w
one_answer [] qs q None None h k = refl
one_answer [] qs q None (Some g) h k = absurd k
one_answer [] qs q (Some f) w h k = absurd h
one_answer (t ∷ ts) qs q None None h k = refl
one_answer (t ∷ ts) qs q None (Some g) (h, hs) (inl k) = absurd (h k.1)
one_answer (t ∷ ts) qs q None (Some g) (h, hs) (inr k) = one_answer ts qs q None (Some g) hs k.1
one_answer (t ∷ ts) qs q (Some f) None (inl h) (k, ks) = absurd (k h.1)
one_answer (t ∷ ts) qs q (Some f) None (inr h) (k, ks) = one_answer ts qs q (Some f) None h.1 ks
one_answer (t ∷ ts) qs q (Some f) (Some g) (inl h) (inl k) = ap Some (h.0 ∙ sym k.0)
one_answer (t ∷ ts) qs q (Some f) (Some g) (inl h) (inr k) = absurd (k.0 h.1)
one_answer (t ∷ ts) qs q (Some f) (Some g) (inr h) (inl k) = absurd (h.0 k.1)
one_answer (t ∷ ts) qs q (Some f) (Some g) (inr h) (inr k) = one_answer ts qs q (Some f) (Some g) h.1 k.1

-- A tree with as many nodes and loose ends as these packets, the newest first, leave, and with what the node under way has told: no verdict depends on more.
abbrev tree_after : List ℕ → Tree
tree_after ps =
    record {
      rows = record { items = replicate (nodes_finished ps) (row_with (fields_in 0) []) };
      ends = record { items = replicate (loose_count ps) (end_at 0 0) };
      rooted = false;
      turn = length (under_way ps);
      fields = fields_in 0;
      marks = record { items = marks_told (under_way ps) };
    }

-- The verdict on q after qs, computed.
module _ (qs : List ℕ) (q : ℕ) where
  abbrev due : ℕ
  due = inverse_of (get_or (packets_taken qs) 0 0)

  abbrev on_inverse : Option Flaw
  on_inverse = cond (eqb q due) None (Some NotInverse)

  abbrev on_packet : Option Flaw
  on_packet = judged (tree_after (packets_taken qs)) q

  abbrev unless_whole : Option Flaw
  unless_whole = cond (inverse_due qs) on_inverse on_packet

  abbrev verdict_computed : Option Flaw
  verdict_computed = cond (whole qs) (Some AlreadyWhole) unless_whole

  module _ (begins : Begins qs) where
    inverse_case : (e : Bool) → whole qs ≡ false → inverse_due qs ≡ true → eqb q due ≡ e → Verdict qs q (cond e None (Some NotInverse))
    inverse_case true w d e = verdict_inverse qs q begins w d (eqb-true q due e)
    inverse_case false w d e = verdict_not_inverse qs q w d (eqb-false q due e)

    due_case : (d : Bool) → whole qs ≡ false → inverse_due qs ≡ d → Verdict qs q (cond d on_inverse on_packet)
    due_case true w d = inverse_case (eqb q due) w d refl
    due_case false w d = verdict_packet qs q begins w d on_packet (packet_tested qs q (tree_after (packets_taken qs)) begins w d (length-replicate (nodes_finished (packets_taken qs)) _) (length-replicate (loose_count (packets_taken qs)) _) refl refl refl)

    whole_case : (w : Bool) → whole qs ≡ w → Verdict qs q (cond w (Some AlreadyWhole) unless_whole)
    whole_case true w = verdict_whole qs q begins w
    whole_case false w = due_case (inverse_due qs) w refl

    only_verdict : (v : Option Flaw) → Verdict qs q v → v ≡ verdict_computed
    only_verdict v h = one_answer (tests_due qs) qs q v verdict_computed h.first_that_applies (whole_case (whole qs) refl).first_that_applies

-- What is seen, computed: the quadlets qs were taken, and others are offered.
abbrev seen_settled : (qs : List ℕ) (w : Bool) → Seen
seen_settled qs w = cond w (bus_of (nodes_finished (packets_taken qs))) (stopped 32 (length qs))

abbrev seen_by : Option Flaw → (qs : List ℕ) (further : Seen) → Seen
seen_by None qs further = further
seen_by (Some f) qs further = stopped (flaw_number f) (length qs)

abbrev seen_after : (qs others : List ℕ) → Seen
seen_after qs [] = seen_settled qs (whole qs)
seen_after qs (q ∷ others) = seen_by (verdict_computed qs q) qs (seen_after (qs ++ (q ∷ [])) others)

settles : (qs : List ℕ) → Begins qs → (r : Shown) → SettleCall (gathered_with qs None) r → seen_in r ≡ seen_after qs []
settles qs b r (inl k) =
    let count = k.shows.count ∙ sym (as_many_nodes k.cabling qs k.announces) in
    ap seen_in k.shows.nodes ∙ ap bus_of count ∙ sym (ap (seen_settled qs) (announced_whole k.cabling qs k.announces))
settles qs b r (inr k) = by_whole (whole qs) refl
  where
    by_whole : (w : Bool) → whole qs ≡ w → seen_in r ≡ seen_settled qs w
    by_whole true w = let (c, a) = whole_announced qs b w in absurd (k.none_announces c a)
    by_whole false w = ap seen_in k.cause

never_spoiled : (s : Spoil) → ◌≡◌ {A = Option Spoil} None (Some s) → ⊥
never_spoiled s e = let z : ◌≡◌ {A = ℕ} 0 1 = cc in omega arith

answered : (qs : List ℕ) (q : ℕ) (others : List ℕ) (further : Seen) → Begins qs → (Begins (qs ++ (q ∷ [])) → SeesFrom (gathered_with (qs ++ (q ∷ [])) None) others further) → SeesFrom (gathered_with qs None) (q ∷ others) (seen_by (verdict_computed qs q) qs further)
answered qs q others further b go_on (Ok _) h k =
    let seen : SeesFrom h others further = subst (λ g. SeesFrom g others further) (sym k.then) (go_on k.passes.still_begins) in
    subst (λ v. SeesFrom h others (seen_by v qs further)) (only_verdict qs q b None k.passes) seen
answered qs q others further b go_on (Err (Flawed s)) h k =
    ap (λ v. seen_by v qs further) (sym (only_verdict qs q b (Some s.flaw) k.fails)) ∙ ap (stopped (flaw_number s.flaw)) (sym k.place)
answered qs q others further b go_on (Err (Spoiled p)) h k = absurd (never_spoiled k.by k.spoiled)

offered : (qs others : List ℕ) → Begins qs → SeesFrom (gathered_with qs None) others (seen_after qs others)
offered qs [] b = settles qs b
offered qs (q ∷ others) b = answered qs q others (seen_after (qs ++ (q ∷ [])) others) b (offered (qs ++ (q ∷ [])) others)

-- Examples of which what is computed is what is said.
abbrev pub AllComputed : List Example → Type 0
AllComputed [] = Unit {0}
AllComputed (e ∷ es) = (seen_after [] e.offer ≡ e.sees) × AllComputed es

pub all_seen : (es : List Example) → AllComputed es → AllSeen es
all_seen [] h = tt
all_seen (e ∷ es) (h, hs) = (subst (SeesFrom nothing_offered e.offer) h (offered [] e.offer nothing_begins), all_seen es hs)

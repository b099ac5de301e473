-- Which quadlets begin an announcement: the tests and the rule of completion tell it.
use Rattle.std.proofs.Common.{◌≡◌, ℕ, ◌+◌, ◌-◌, ◌*◌, ◌≤◌, Bool, true, false, cond, not, eqb, ltb, List, [], ◌∷◌, ◌++◌, reverse, length, get_or, Some, None, Decides, sym, refl, ap, ◌∙◌, subst, inl, inr, arith}
use mathlib.Core.HLevel.{⊥_prop, ×_prop}
use mathlib.Core.Logic.{∥∥₁_prop}
use native.Mathlib.Bridge.{le_prop}
use Rattle.std.proofs.lemmas.Bool.{both_ways, and_parts, and_from, lt-ltb, le-leb, ltb-true, leb-true, not-true, not_from_false, eq-eqb}
use Rattle.selfid.specs.Packets.{inverse_of, with_inverses}
use Rattle.selfid.specs.Cabling.{Cabling, node_limit, size}
use Rattle.selfid.specs.Announcement.{packets, packets_from}
use Rattle.judging.specs.declared.flaw.Flaw.{Flaw}
use Rattle.judging.specs.declared.flaw.Flaw.TheVariants.{NotInverse, NotSelfId, ReservedBit, WrongNumber, OutOfTurn, EmptyExtension, SecondUp, TooManyDown, LooseEndLeft, NoCabling}
use Rattle.judging.specs.Beginnings.{Announces, Begins}
use Rattle.judging.specs.Standing.{without_inverses, packets_taken, inverse_due, under_way, finished_nodes, nodes_finished, ends_in_root, whole}
use Rattle.judging.specs.Tests.{Applies, Tested, packet_tests, tests_due}
use Rattle.judging.specs.Completion.{enough, enough_with, nodes_in, packets_of, Waiting, CompletionRule, CompletionRuleWithin}
use Rattle.judging.proofs.Machine.{State, going, ended, between, after, Fits, Good, Follows, reached, start}
use Rattle.judging.proofs.Back.{back_step}
use Rattle.judging.proofs.Runs.{follows_++, follows_cut, reached_++}
use Rattle.judging.proofs.Announcing.{run_proper, run_waiting}
use Rattle.judging.proofs.Parsing.{parse}
use Rattle.judging.proofs.Standings.{Stands, stands}
use Rattle.judging.proofs.Quadlets.{inverses_with, due_with, packet_more, inverses_packet, inverse_more, inverses_inverse, inverse_known, with_without}
use Rattle.judging.proofs.Acceptance.{Accepted, begins, from_beginning, follows_prop, inverses_prop}
use Rattle.judging.proofs.Passing.{eight_tests, ups_so_far, downs_so_far, fits_from, not_applying}
use Rattle.judging.proofs.Enough.{between_nodes, decides_next}
use Rattle.judging.proofs.Rebuilt.{cabling_taken, one_after_another, without_with}

-- The state after some quadlets.
abbrev state_after : List ℕ → State
state_after qs = reached start (without_inverses qs)

-- An inverse is taken.
pub inverse_follows : (qs : List ℕ) (q : ℕ) → Begins qs → inverse_due qs ≡ true → q ≡ inverse_of (get_or (packets_taken qs) 0 0) → Begins (qs ++ (q ∷ []))
inverse_follows qs q b due e =
    from_beginning qs ∥∥₁_prop b (λ a.
    let same = sym (inverse_more qs q due) in
    ∣ begins (qs ++ (q ∷ [])) (record { inverses = inverses_inverse qs q due a.inverses e; follows = subst (Follows start) same a.follows; good = subst (λ ps. Good (reached start ps)) same a.good }) ∣₁)

-- A packet is taken or turned away: what the tests and the rule say of it in a state that can go on.
whole_from : (qs : List ℕ) (n : ℕ) → inverse_due qs ≡ false → Stands (ended n) (packets_taken qs) → whole qs ≡ true
whole_from qs n due (_, none, root) =
    and_from (not (inverse_due qs)) _ (not_from_false (inverse_due qs) due)
    (and_from (eqb (length (under_way (packets_taken qs))) 0) (ends_in_root (finished_nodes (packets_taken qs))) (eq-eqb (length (under_way (packets_taken qs))) 0 none) root)

fits_next : (s : State) (qs : List ℕ) (q : ℕ) → Stands s (packets_taken qs) → whole qs ≡ false → inverse_due qs ≡ false → Tested eight_tests qs q None → Fits s q
fits_next (going f l u d t) qs q s w due tests = fits_from f l u d t qs q s tests
fits_next (ended n) qs q s w due tests = absurd (both_ways (whole qs) w (whole_from qs n due s))

enough_next : (s : State) (qs : List ℕ) (q : ℕ) → Stands s (packets_taken qs) → Fits s q → Good s → Decides (enough_with (packets_taken qs) q) (Good (after s q))
enough_next (going f l u d t) qs q s fits g =
    decides_next f l u d t (packets_taken qs) q s.0 s.1 (ups_so_far f l u d t qs q s) (downs_so_far f l u d t qs q s) g.2 fits
enough_next (ended n) qs q s fits g = absurd fits

tested_next : (s : State) (qs : List ℕ) (q : ℕ) → Stands s (packets_taken qs) → Fits s q → Tested eight_tests qs q None
tested_next (going f l u d t) qs q s fits = not_applying f l u d t qs q s fits
tested_next (ended n) qs q s fits = absurd fits

pub packet_follows : (qs : List ℕ) (q : ℕ) → Begins qs → whole qs ≡ false → inverse_due qs ≡ false → Tested (NotSelfId ∷ ReservedBit ∷ WrongNumber ∷ OutOfTurn ∷ EmptyExtension ∷ SecondUp ∷ TooManyDown ∷ LooseEndLeft ∷ []) qs q None → enough_with (packets_taken qs) q ≡ true → Begins (qs ++ (q ∷ []))
packet_follows qs q b w due tests enough =
    from_beginning qs ∥∥₁_prop b (λ a.
    let ps = without_inverses qs in
    let s = stands ps a.follows in
    let fits = fits_next (state_after qs) qs q s w due tests in
    let good = (enough_next (state_after qs) qs q s fits a.good).0 enough in
    let same = sym (packet_more qs q due) in
    ∣ begins (qs ++ (q ∷ [])) (record { inverses = inverses_packet qs q due a.inverses; follows = subst (Follows start) same (follows_++ start ps (q ∷ []) a.follows (fits, tt)); good = subst (λ r. Good (reached start r)) same (subst Good (sym (reached_++ start ps (q ∷ []))) good) }) ∣₁)

-- A packet that has come.
record Came (qs : List ℕ) (q : ℕ) : Type 0 where
  follows : Follows start (without_inverses qs)
  fits : Fits (state_after qs) q
  good : Good (after (state_after qs) q)

came : (qs : List ℕ) (q : ℕ) → inverse_due qs ≡ false → Accepted (qs ++ (q ∷ [])) → Came qs q
came qs q due a =
    let ps = without_inverses qs in
    let more = packet_more qs q due in
    let (before, next) = follows_cut start ps (q ∷ []) (subst (Follows start) more a.follows) in
    record { follows = before; fits = next.0; good = subst Good (reached_++ start ps (q ∷ [])) (subst (λ r. Good (reached start r)) more a.good) }

pub not_enough : (qs : List ℕ) (q : ℕ) → inverse_due qs ≡ false → Tested (NotSelfId ∷ ReservedBit ∷ WrongNumber ∷ OutOfTurn ∷ EmptyExtension ∷ SecondUp ∷ TooManyDown ∷ LooseEndLeft ∷ []) qs q None → enough_with (packets_taken qs) q ≡ false → Begins (qs ++ (q ∷ [])) → ⊥
not_enough qs q due tests few b =
    from_beginning (qs ++ (q ∷ [])) ⊥_prop b (λ a.
    let c = came qs q due a in
    let s = stands (without_inverses qs) c.follows in
    both_ways (enough_with (packets_taken qs) q) few ((enough_next (state_after qs) qs q s c.fits (back_step (state_after qs) q c.fits c.good)).1 c.good))

-- Whichever test applies, no announcement begins so.
one_verdict : (ts : List Flaw) (qs : List ℕ) (q : ℕ) (f : Flaw) → Tested ts qs q None → Tested ts qs q (Some f) → ⊥
one_verdict [] qs q f h k = k
one_verdict (t ∷ ts) qs q f (h, hs) (inl k) = h k.1
one_verdict (t ∷ ts) qs q f (h, hs) (inr k) = one_verdict ts qs q f hs k.1

one_test_more : (ts : List Flaw) (t : Flaw) (qs : List ℕ) (q : ℕ) → Tested ts qs q None → (Applies t qs q → ⊥) → Tested (ts ++ (t ∷ [])) qs q None
one_test_more [] t qs q h k = (k, tt)
one_test_more (o ∷ ts) t qs q (h, hs) k = (h, one_test_more ts t qs q hs k)

none_after_the_last : (c : Cabling) (qs : List ℕ) (q : ℕ) → Announces c qs → Accepted (qs ++ (q ∷ [])) → ⊥
none_after_the_last c qs q h a =
    let due : inverse_due qs ≡ false = subst (λ r. inverse_due r ≡ false) h.exactly (due_with (packets c)) in
    let same : without_inverses qs ≡ packets c = ap without_inverses (sym h.exactly) ∙ without_with (packets c) in
    let end : state_after qs ≡ ended (size c) = ap (reached start) same ∙ (run_proper c h.proper).1 in
    subst (λ s. Fits s q) end (came qs q due a).fits

none_applies : (qs : List ℕ) (q : ℕ) → Begins (qs ++ (q ∷ [])) → Accepted (qs ++ (q ∷ [])) → Tested (tests_due qs) qs q None
none_applies qs q b a = (λ (c, h). none_after_the_last c qs q h a, by_kind (inverse_due qs) refl)
  where
    by_kind : (d : Bool) → inverse_due qs ≡ d → Tested (cond d (NotInverse ∷ []) packet_tests) qs q None
    by_kind true due = (λ other. other (inverse_known qs q due a.inverses), tt)
    by_kind false due =
        let c = came qs q due a in
        one_test_more eight_tests NoCabling qs q (tested_next (state_after qs) qs q (stands (without_inverses qs) c.follows) c.fits) (λ none. none b)

pub turned_away : (qs : List ℕ) (q : ℕ) (f : Flaw) → Tested (tests_due qs) qs q (Some f) → Begins (qs ++ (q ∷ [])) → ⊥
turned_away qs q f t b = from_beginning (qs ++ (q ∷ [])) ⊥_prop b (λ a. one_verdict (tests_due qs) qs q f (none_applies qs q b a) t)

-- The announcement is whole exactly where a cabling announces just these quadlets.
whole_parts : (qs : List ℕ) → whole qs ≡ true → (inverse_due qs ≡ false) × (ends_in_root (finished_nodes (packets_taken qs)) ≡ true)
whole_parts qs w =
    let (due, behind) = and_parts (not (inverse_due qs)) _ w in
    (not-true (inverse_due qs) due, (and_parts (eqb (length (under_way (packets_taken qs))) 0) (ends_in_root (finished_nodes (packets_taken qs))) behind).1)

ended_state : (s : State) (ps : List ℕ) → Stands s ps → ends_in_root (finished_nodes ps) ≡ true → (n : ℕ) × (s ≡ ended n)
ended_state (going f l u d t) ps s root = absurd (both_ways (ends_in_root (finished_nodes ps)) s.5 root)
ended_state (ended n) ps s root = (n, refl)

pub whole_announced : (qs : List ℕ) → Begins qs → whole qs ≡ true → (c : Cabling) × Announces c qs
whole_announced qs b w =
    let ps = without_inverses qs in
    let (due, root) = whole_parts qs w in
    let follows = from_beginning qs (follows_prop start ps) b (λ a. a.follows) in
    let inverses = from_beginning qs (inverses_prop qs) b (λ a. a.inverses) in
    let (n, end) = ended_state (state_after qs) (packets_taken qs) (stands ps follows) root in
    let few : n ≤ node_limit = from_beginning qs le_prop b (λ a. subst Good end a.good) in
    let (c, proper, same) = parse ps n few (follows, end) in
    (c, record { proper = proper; exactly = ap with_inverses same ∙ with_without qs inverses due })

pub announced_whole : (c : Cabling) (qs : List ℕ) → Announces c qs → whole qs ≡ true
announced_whole c qs h =
    let (follows, end) = run_proper c h.proper in
    let taken : reverse (packets c) ≡ packets_taken qs = ap reverse (sym (without_with (packets c)) ∙ ap without_inverses h.exactly) in
    let s : Stands (ended (size c)) (reverse (packets c)) = subst (λ r. Stands r (reverse (packets c))) end (stands (packets c) follows) in
    whole_from qs (size c) (subst (λ r. inverse_due r ≡ false) h.exactly (due_with (packets c))) (subst (Stands (ended (size c))) taken s)

-- How many nodes are finished.
in_range : (s : State) (ps : List ℕ) → Stands s ps → Good s → nodes_finished ps ≤ node_limit
in_range (going f l u d t) ps s g = omega (arith, s.0, g.2)
in_range (ended n) ps s g = omega (arith, s.0, g)

pub finished_in_range : (qs : List ℕ) → Begins qs → nodes_finished (packets_taken qs) ≤ node_limit
finished_in_range qs b = from_beginning qs le_prop b (λ a. in_range (state_after qs) (packets_taken qs) (stands (without_inverses qs) a.follows) a.good)

room_for_one : (s : State) (qs : List ℕ) → whole qs ≡ false → inverse_due qs ≡ false → Stands s (packets_taken qs) → Good s → nodes_finished (packets_taken qs) ≤ node_limit - 1
room_for_one (going f l u d t) qs w due s g = omega (arith, s.0, g.2)
room_for_one (ended n) qs w due s g = absurd (both_ways (whole qs) w (whole_from qs n due s))

pub node_may_come : (qs : List ℕ) → Begins qs → whole qs ≡ false → inverse_due qs ≡ false → nodes_finished (packets_taken qs) ≤ node_limit - 1
node_may_come qs b w due = from_beginning qs le_prop b (λ a. room_for_one (state_after qs) qs w due (stands (without_inverses qs) a.follows) a.good)

-- Cablings that wait have finished all their nodes.
waiting_finished : (cs : List Cabling) → Waiting cs → (under_way (reverse (packets_of cs)) ≡ []) × (nodes_finished (reverse (packets_of cs)) ≡ nodes_in cs)
waiting_finished [] w = (refl, refl)
waiting_finished (c ∷ cs) (h, w) =
    let (none, count) = waiting_finished cs w in
    let before = reverse (packets_of cs) in
    let taken = cabling_taken c 1 (nodes_in cs) before h none in
    let parts = one_after_another (packets_of cs) (packets_from (nodes_in cs) c) [] in
    (ap under_way parts ∙ taken.none_under_way, ap nodes_finished parts ∙ taken.more_nodes ∙ ap (λ n. n + size c) count)

pub completion_rule : CompletionRule
completion_rule cs w = (λ b. as_test (from_beginning qs (×_prop le_prop le_prop) b (needed b)), λ e. suffices (as_counts e))
  where
    qs : List ℕ
    qs = with_inverses (packets_of cs)

    same : without_inverses qs ≡ packets_of cs
    same = without_with (packets_of cs)

    count : nodes_finished (packets_taken qs) ≡ nodes_in cs
    count = ap (λ r. nodes_finished (reverse r)) same ∙ (waiting_finished cs w).1

    state : nodes_in cs ≤ 63 → state_after qs ≡ between (nodes_in cs) (length cs)
    state few = ap (reached start) same ∙ (run_waiting cs w (omega arith)).1

    needed : Begins qs → Accepted qs → (nodes_in cs ≤ 62) × (length cs ≤ 16 + 14 * (62 - nodes_in cs))
    needed b a =
        let few : nodes_in cs ≤ 63 = omega (arith, finished_in_range qs b, count) in
        (between_nodes (nodes_in cs) (length cs)).0 (subst Good (state few) a.good)

    as_test : (nodes_in cs ≤ 62) × (length cs ≤ 16 + 14 * (62 - nodes_in cs)) → enough (nodes_in cs) (length cs) ≡ true
    as_test (few, loose) = and_from _ _ (lt-ltb (nodes_in cs) node_limit (omega (arith, few))) (le-leb (length cs) _ loose)

    as_counts : enough (nodes_in cs) (length cs) ≡ true → (nodes_in cs ≤ 62) × (length cs ≤ 16 + 14 * (62 - nodes_in cs))
    as_counts e =
        let (few, loose) = and_parts (ltb (nodes_in cs) node_limit) _ e in
        (omega (arith, ltb-true (nodes_in cs) node_limit few), leb-true (length cs) _ loose)

    suffices : (nodes_in cs ≤ 62) × (length cs ≤ 16 + 14 * (62 - nodes_in cs)) → Begins qs
    suffices h =
        let few : nodes_in cs ≤ 63 = omega (arith, h.0) in
        let follows = subst (Follows start) (sym same) (run_waiting cs w (omega arith)).0 in
        ∣ begins qs (record { inverses = inverses_with (packets_of cs); follows = follows; good = subst Good (sym (state few)) ((between_nodes (nodes_in cs) (length cs)).1 h) }) ∣₁

pub completion_rule_within : CompletionRuleWithin
completion_rule_within qs q b w d others = (go (enough_with (packets_taken qs) q) refl, packet_follows qs q b w d others)
  where
    go : (e : Bool) → enough_with (packets_taken qs) q ≡ e → Begins (qs ++ (q ∷ [])) → enough_with (packets_taken qs) q ≡ true
    go true e k = e
    go false e k = absurd (not_enough qs q d others e k)

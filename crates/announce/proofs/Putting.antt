-- Words put into a row, and the packets of a node one after the other.
use Rattle.std.proofs.Common.{◌≡◌, ℕ, zero, suc, ◌+◌, ◌-◌, ◌*◌, ◌<◌, ◌≤◌, Bool, true, false, cond, not, ◌||◌, ◌==◌, ◌⊎◌, List, [], ◌∷◌, ◌++◌, length, get_or, take, drop, set, inl, inr, subst, zero-add, sym, refl, ap, ◌∙◌, ap₂, append_assoc, append-nil, add-zero, add-one, arith, length-append, length-drop, length-take}
use denote.Param.Members.{Mut}
use Rattle.std.specs.Fn.{Called}
use Rattle.std.specs.Array.{IsFromFnResult, IsFromFnResultFrom}
use Rattle.std.specs.List.{list_any, take_while}
use Rattle.std.proofs.lemmas.Bool.{cases_Bool, cases_lt}
use Rattle.std.proofs.lemmas.List.Recursion.{same_from_clauses}
use Rattle.std.proofs.lemmas.List.{nil_from_length, set_split, length-set, take-append-drop, take_at, drop_at, drop-drop, length-take-le, get_or-drop}
use Rattle.selfid.specs.declared.mark.Mark.{Mark}
use Rattle.selfid.specs.declared.mark.Mark.TheVariants.{Absent, Open, Up, Down}
use Rattle.selfid.specs.declared.node.Node.{Node}
use Rattle.selfid.specs.Marks.{mark_code, present}
use Rattle.selfid.specs.Packets.{code_at, extension_word, inverse_of, with_inverses}
use Rattle.selfid.specs.Nodes.{extensions}
use Rattle.announce.specs.declared.writer.Writer.{Writer}
use Rattle.announce.specs.Writing.{put, Writes, node_quadlets}

-- A mark that is there.
abbrev pub is_there : Mark → Bool
is_there m = not (mark_code m == 0)

pub some_there : (ms : List Mark) → list_any is_there ms ≡ present ms
some_there = same_from_clauses (list_any is_there) present (λ m b. is_there m || b) refl (λ m ms. refl) one_more
  where
    one_more : (m : Mark) (ms : List Mark) → present (m ∷ ms) ≡ (is_there m || present ms)
    one_more Absent ms = refl
    one_more Open ms = refl
    one_more Up ms = refl
    one_more Down ms = refl

-- Lengths of what is sent.
pub length_pairs : (qs : List ℕ) → length (with_inverses qs) ≡ 2 * length qs
length_pairs [] = refl
length_pairs (q ∷ qs) = omega (arith, length_pairs qs)

pub pairs_append : (qs rs : List ℕ) → with_inverses (qs ++ rs) ≡ with_inverses qs ++ with_inverses rs
pairs_append [] rs = refl
pairs_append (q ∷ qs) rs = ap (λ l. q ∷ inverse_of q ∷ l) (pairs_append qs rs)

-- One extension after the other: none is left to send, or one and those behind it.
pub none_left : (k n e : ℕ) (ms : List Mark) → present ms ≡ false → extensions k n e ms ≡ []
none_left zero n e ms h = refl
none_left (suc k) n e ms h = ap (λ b. cond b (extension_word n e ms (present (drop 8 ms)) ∷ extensions k n (suc e) (drop 8 ms)) []) h

one_left : (k n e : ℕ) (ms : List Mark) → present ms ≡ true → extensions (suc k) n e ms ≡ extension_word n e ms (present (drop 8 ms)) ∷ extensions k n (suc e) (drop 8 ms)
one_left k n e ms h = ap (λ b. cond b (extension_word n e ms (present (drop 8 ms)) ∷ extensions k n (suc e) (drop 8 ms)) []) h

-- the extensions from turn t on, of at most k
abbrev pub left : (k n t : ℕ) → List Mark → List ℕ
left k n t ms = extensions (k - t) n t (drop (8 * t + 3) ms)

pub left_more : (k n t : ℕ) (ms : List Mark) → t < k → present (drop (8 * t + 3) ms) ≡ true → left k n t ms ≡ extension_word n t (drop (8 * t + 3) ms) (present (drop 8 (drop (8 * t + 3) ms))) ∷ left k n (t + 1) ms
left_more k n t ms h p =
    let fuel : k - t ≡ suc (k - (t + 1)) = omega arith in
    let turn : suc t ≡ t + 1 = omega arith in
    let place : drop 8 (drop (8 * t + 3) ms) ≡ drop (8 * (t + 1) + 3) ms = drop-drop 8 (8 * t + 3) ms ∙ same_drop (8 * t + 3 + 8) (8 * (t + 1) + 3) (omega arith) in
    ap (λ f. extensions f n t (drop (8 * t + 3) ms)) fuel
    ∙ one_left (k - (t + 1)) n t (drop (8 * t + 3) ms) p
    ∙ ap₂ (λ u l. extension_word n t (drop (8 * t + 3) ms) (present (drop 8 (drop (8 * t + 3) ms))) ∷ extensions (k - (t + 1)) n u l) turn place
  where
    same_drop : (i j : ℕ) → i ≡ j → drop i ms ≡ drop j ms
    same_drop i j e = ap (λ n. drop n ms) e

pub none_past : (k n t : ℕ) (ms : List Mark) → k ≤ t → left k n t ms ≡ []
none_past k n t ms h = let e : k - t ≡ 0 = omega arith in ap (λ f. extensions f n t (drop (8 * t + 3) ms)) e

-- A node sends as many packets under any number.
pub same_count : (k n m e f : ℕ) (ms : List Mark) → length (extensions k n e ms) ≡ length (extensions k m f ms)
same_count zero n m e f ms = refl
same_count (suc k) n m e f ms = go (present ms) (same_count k n m (suc e) (suc f) (drop 8 ms))
  where
    go : (b : Bool) → length (extensions k n (suc e) (drop 8 ms)) ≡ length (extensions k m (suc f) (drop 8 ms)) → length (cond b (extension_word n e ms (present (drop 8 ms)) ∷ extensions k n (suc e) (drop 8 ms)) []) ≡ length (cond b (extension_word m f ms (present (drop 8 ms)) ∷ extensions k m (suc f) (drop 8 ms)) [])
    go true ih = ap suc ih
    go false ih = refl

-- The turns in which an extension is sent.
pub count_turns : (ms : List Mark) → length {A = ℕ} (take_while (λ t. present (drop (8 * t + 3) ms)) (0 ∷ 1 ∷ [])) ≡ length (extensions 2 0 0 (drop 3 ms))
count_turns ms = rw (drop-drop 8 3 ms) (go (present (drop 3 ms)) (present (drop 11 ms)))
  where
    go : (a b : Bool) → length {A = ℕ} (take (cond a (1 + cond b 1 0) 0) (0 ∷ 1 ∷ [])) ≡ length {A = ℕ} (cond a (extension_word 0 0 (drop 3 ms) (present (drop 11 ms)) ∷ cond b (extension_word 0 1 (drop 11 ms) (present (drop 8 (drop 11 ms))) ∷ []) []) [])
    go true true = refl
    go true false = refl
    go false b = refl

-- One is left as long as fewer are sent than there are.
some_left : (k n t : ℕ) (ms : List Mark) → 0 < length (left k n t ms) → (t < k) × (present (drop (8 * t + 3) ms) ≡ true)
some_left k n t ms some = (early (cases_lt t k), there (cases_Bool (present (drop (8 * t + 3) ms))))
  where
    early : (t < k) ⊎ (k ≤ t) → t < k
    early (inl l) = l
    early (inr l) = absurd (omega (arith, ap length (none_past k n t ms l)))

    there : (present (drop (8 * t + 3) ms) ≡ true) ⊎ (present (drop (8 * t + 3) ms) ≡ false) → present (drop (8 * t + 3) ms) ≡ true
    there (inl e) = e
    there (inr e) = absurd (omega (arith, ap length (none_left (k - t) n t (drop (8 * t + 3) ms) e)))

-- What calls that leave a closure as it is made, each at its place.
module _ {F B : Type 0} (g : Mut F (ℕ × Unit {0}) B) (f : F) (ys : List B) (stays : (k : ℕ) (y : B) (q : F) → Called g f (k, tt) y q → q ≡ f) where
  made_from : (i n k : ℕ) (d : B) → IsFromFnResultFrom g f ys i n → k < n → (q : F) × Called g f (i + k, tt) (get_or ys (i + k) d) q
  made_from i zero k d h l = absurd (omega arith)
  made_from i (suc n) zero d (q, y, e, call, rest) l = rw add-zero (q, rw (e.1 d) call)
  made_from i (suc n) (suc k) d (q, y, e, call, rest) l =
      let e : i + 1 + k ≡ i + suc k = omega arith in
      rw (← e) (made_from (i + 1) n k d (subst (λ p. IsFromFnResultFrom g p ys (i + 1) n) (stays i y q call) rest) (omega arith))

  pub made_at : (n k : ℕ) (d : B) → IsFromFnResult g f ys n → k < n → (q : F) × Called g f (k, tt) (get_or ys k d) q
  made_at n k d h l = rw zero-add at (made_from 0 n k d h.each l)

-- An extension has the first eight of the marks from its first port on.
pub eight_taken : (n e first : ℕ) (ms taken : List Mark) (more : Bool) → ((i : ℕ) → i < 8 → get_or taken i Absent ≡ get_or ms (first + i) Absent) → extension_word n e taken more ≡ extension_word n e (drop first ms) more
eight_taken n e first ms taken more h =
    omega (
      arith,
      at 0 (omega arith),
      at 1 (omega arith),
      at 2 (omega arith),
      at 3 (omega arith),
      at 4 (omega arith),
      at 5 (omega arith),
      at 6 (omega arith),
      at 7 (omega arith),
    )
  where
    at : (k : ℕ) → k < 8 → code_at taken k ≡ code_at (drop first ms) k
    at k l = ap mark_code (h k l ∙ sym (get_or-drop first ms k Absent))

-- Words put behind others, and two words written one by one.
put_front : (row : List ℕ) (i : ℕ) (qs : List ℕ) → i ≤ length row → take (i + length qs) (put row i qs) ≡ take i row ++ qs
put_front row i qs h =
    ap (take (i + length qs)) (sym (append_assoc (take i row) qs (drop (i + length qs) row)))
    ∙ take_at (take i row ++ qs) (drop (i + length qs) row) (i + length qs) (length-append (take i row) qs ∙ ap (λ k. k + length qs) (length-take-le i row h))

put_behind : (row : List ℕ) (i k : ℕ) (qs : List ℕ) → i ≤ length row → drop (i + length qs + k) (put row i qs) ≡ drop (i + length qs + k) row
put_behind row i k qs h =
    let n = i + length qs in
    sym (drop-drop k n (put row i qs))
    ∙ ap (drop k) (ap (drop n) (sym (append_assoc (take i row) qs (drop n row))) ∙ drop_at (take i row ++ qs) (drop n row) n (length-append (take i row) qs ∙ ap (λ j. j + length qs) (length-take-le i row h)))
    ∙ drop-drop k n row

pub put_more : (row : List ℕ) (i : ℕ) (qs rs : List ℕ) → i ≤ length row → put (put row i qs) (i + length qs) rs ≡ put row i (qs ++ rs)
put_more row i qs rs h =
    ap₂ (λ a b. a ++ (rs ++ b)) (put_front row i qs h) (put_behind row i (length rs) qs h)
    ∙ append_assoc (take i row) qs (rs ++ drop (i + length qs + length rs) row)
    ∙ ap (λ l. take i row ++ l) (sym (append_assoc qs rs (drop (i + length qs + length rs) row)))
    ∙ ap (λ n. take i row ++ ((qs ++ rs) ++ drop n row)) (omega (arith, length-append qs rs))

put_one : (row : List ℕ) (i q : ℕ) → i < length row → set row i q ≡ put row i (q ∷ [])
put_one row i q h = set_split row i q h ∙ ap (λ n. take i row ++ q ∷ drop n row) (sym (add-one i))

pub put_two : (row : List ℕ) (i q r : ℕ) → i + 2 ≤ length row → set (set row i q) (i + 1) r ≡ put row i (q ∷ r ∷ [])
put_two row i q r h =
    put_one (set row i q) (i + 1) r (omega (arith, length-set row i q))
    ∙ ap (λ l. put l (i + 1) (r ∷ [])) (put_one row i q (omega arith))
    ∙ put_more row i (q ∷ []) (r ∷ []) (omega arith)

pub length_put : (row : List ℕ) (i : ℕ) (qs : List ℕ) → i + length qs ≤ length row → length (put row i qs) ≡ length row
length_put row i qs h = simp (length-append, length-take, length-drop) (omega arith)

pub put_none : (row : List ℕ) (i : ℕ) → row ≡ put row i []
put_none row i = sym (ap (λ n. take i row ++ drop n row) (add-zero i) ∙ take-append-drop i row)

-- Nothing is written, and words are written behind others.
pub nothing_written : (w : Writer) → Writes w w []
nothing_written w = record { same_row = refl; behind = sym (add-zero w.at); written = put_none w.words.now w.at }

pub both_written : (a b c : Writer) (qs rs : List ℕ) → a.at ≤ length a.words.now → Writes a b qs → Writes b c rs → Writes a c (qs ++ rs)
both_written a b c qs rs h p q =
    record {
      same_row = q.same_row ∙ p.same_row;
      behind = omega (arith, p.behind, q.behind, length-append qs rs);
      written = q.written ∙ ap₂ (λ r k. put r k rs) p.written p.behind ∙ put_more a.words.now a.at qs rs h;
    }

-- Before turn t the extensions before it are written. There are so many turns as there are extensions, and room for these.
pub record HalfSent (n t turns : ℕ) (ms : List Mark) (before now : Writer) : Type 0 where
  pub sent : List ℕ
  pub so_far : length sent ≡ t
  pub in_all : turns ≡ length (left 2 n 0 ms)
  pub all : sent ++ left 2 n t ms ≡ left 2 n 0 ms
  pub room : before.at + length (with_inverses (left 2 n 0 ms)) ≤ length before.words.now
  pub writes : Writes before now (with_inverses sent)

-- Packet zero is written into `row`, and no extension yet.
pub none_sent : (n turns z : ℕ) (x : Node) (row w : Writer) → turns ≡ length (extensions 2 0 0 (drop 3 x.marks)) → row.at + length (node_quadlets n x) ≤ length row.words.now → Writes row w (with_inverses (z ∷ [])) → HalfSent n 0 turns x.marks w w
none_sent n turns z x row w count room first =
    let long : length w.words.now ≡ length row.words.now = ap length first.written ∙ length_put row.words.now row.at (with_inverses (z ∷ [])) (omega arith) in
    record { sent = []; so_far = refl; in_all = count ∙ same_count 2 0 n 0 0 (drop 3 x.marks); all = refl; room = omega (arith, first.behind); writes = nothing_written w }

module _ (n t turns : ℕ) (ms : List Mark) (before now : Writer) (h : HalfSent n t turns ms before now) where
  abbrev word : ℕ
  word = extension_word n t (drop (8 * t + 3) ms) (present (drop 8 (drop (8 * t + 3) ms)))

  module _ (more : t < turns) where
    this_left : (t < 2) × (present (drop (8 * t + 3) ms) ≡ true)
    this_left = some_left 2 n t ms (omega (arith, ap length h.all, h.so_far, h.in_all, length-append h.sent (left 2 n t ms)))

    pub turn_small : t < 2
    turn_small = this_left.0

    here : left 2 n t ms ≡ word ∷ left 2 n (t + 1) ms
    here = left_more 2 n t ms this_left.0 this_left.1

    pub one_sent : (after : Writer) → Writes now after (with_inverses (word ∷ [])) → HalfSent n (t + 1) turns ms before after
    one_sent after w =
        record {
          sent = h.sent ++ (word ∷ []);
          so_far = omega (arith, h.so_far, length-append h.sent (word ∷ []));
          in_all = h.in_all;
          all = append_assoc h.sent (word ∷ []) (left 2 n (t + 1) ms) ∙ ap (λ r. h.sent ++ r) (sym here) ∙ h.all;
          room = h.room;
          writes = rw (pairs_append h.sent (word ∷ [])) (both_written before now after (with_inverses h.sent) (with_inverses (word ∷ [])) (omega (arith, h.room)) h.writes w);
        }

    pub has_room : now.at + 2 ≤ length now.words.now
    has_room =
        let k = ap length h.all in
        let long : length now.words.now ≡ length before.words.now = ap length h.writes.written ∙ length_put before.words.now before.at (with_inverses h.sent) (omega (arith, h.room, length_pairs h.sent, length_pairs (left 2 n 0 ms), k, length-append h.sent (left 2 n t ms))) in
        omega (arith, long, h.room, h.writes.behind, length_pairs h.sent, length_pairs (left 2 n 0 ms), h.so_far, h.in_all, more)

  pub all_sent : turns ≤ t → Writes before now (with_inverses (left 2 n 0 ms))
  all_sent past =
      let e : left 2 n t ms ≡ [] = nil_from_length (left 2 n t ms) (omega (arith, ap length h.all, h.so_far, h.in_all, length-append h.sent (left 2 n t ms))) in
      let s : h.sent ≡ left 2 n 0 ms = sym (append-nil h.sent) ∙ ap (λ r. h.sent ++ r) (sym e) ∙ h.all in
      rw s at h.writes

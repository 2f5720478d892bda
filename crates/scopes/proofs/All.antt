-- Laws of query_all: each scope is asked once, and what waits gets the next answer above it. Assumes nothing.
use Rattle.std.specs.Prelude.{Option, None, Some}
use mathlib.Core.Bool.{Bool, true, false, not}
use mathlib.Core.Path.{◌≡◌, refl, sym, ap, ◌∙◌}
use mathlib.Core.List.{List, [], ◌∷◌, ◌++◌, append_assoc, append-nil}
use Prim.Native.Nat.{ℕ, zero, suc, ◌+◌, ◌-◌, ◌<◌, ◌≤◌}
use native.Mathlib.Omega.{arith}
use lib.ListN.{length, take, drop, replicate, length-append, length-drop, length-replicate, replicate-append-replicate}
use lib.Seq.{drop_at, drop-drop, length-take-le, take_at}
use Rattle.refusals.specs.Memory.{over}
use Rattle.refusals.proofs.Memory.{over_nothing}
use Rattle.edges.specs.declared.Edge.{Edge}
use Rattle.scopes.specs.declared.Tally.{Tally}
use Rattle.edges.specs.Edges.{found, parent_of, walk_of, has, chain_of, chain, query_on, query_of, all_on, all_of}
use Rattle.soundness.specs.Steps.{Ends}
use Rattle.soundness.proofs.Rooted.{chain_alone, chain_rest}
use Rattle.scopes.specs.Scopes.{listed}
use Rattle.scopes.specs.Steps.{answers, tallied}

-- ---- one answer, for all that wait

-- a part that is filled with one number
pub part_filled : (xs ys : List ℕ) (a k e n : ℕ) → e ≡ a + k → e ≤ length xs
    → ys ≡ replicate (length (take (e - a) (drop a xs))) n
    → take a xs ++ (ys ++ drop (e - a) (drop a xs)) ≡ over xs a (replicate k n)
unfolding over
part_filled xs ys a k e n end room filled =
    let so_many : e - a ≡ k = omega arith in
    let long : length (take k (drop a xs)) ≡ k = length-take-le k (drop a xs) (omega (arith, length-drop a xs)) in
    let all : ys ≡ replicate k n =
    filled ∙ ap (λ (j : ℕ). replicate (length (take j (drop a xs))) n) so_many ∙ ap (λ (j : ℕ). replicate j n) long in
    let behind : drop (e - a) (drop a xs) ≡ drop (a + length (replicate k n)) xs =
    ap (λ (j : ℕ). drop j (drop a xs)) so_many ∙ drop-drop k a xs ∙ ap (λ (j : ℕ). drop (a + j) xs) (sym (length-replicate k n)) in
    (λ i. take a xs ++ (all i ++ behind i))
    ∙ sym (append_assoc (take a xs) (replicate k n) (drop (a + length (replicate k n)) xs))

-- of a list and a tally before: the tally and the list after a scope's own answer
abbrev pub Noted : List ℕ → Tally → Bool → Option ℕ → Tally → List ℕ → Type 0
Noted list t waits r u after =
    (u ≡ tallied r waits t) × (after ≡ over list t.written (answers r (t.waiting + 1)))

module _ (list : List ℕ) (t : Tally) (waits : Bool) {r : Option ℕ} where
  pub noted_node : {n : ℕ} {after : List ℕ} → r ≡ Some n → after ≡ over list t.written (replicate (t.waiting + 1) n)
      → Noted list t waits r (record { written = t.written + t.waiting + 1; waiting = 0 }) after
  noted_node e f = rw e (refl, f)

  pub noted_none : r ≡ None → waits ≡ true
      → Noted list t waits r (record { written = t.written; waiting = t.waiting + 1 }) list
  noted_none e h = rw (e, h) (refl, over_nothing list t.written)

  pub noted_alone : r ≡ None → waits ≡ false → Noted list t waits r t list
  noted_alone e h = rw (e, h) (refl, over_nothing list t.written)

-- so many answers and one more
answers_more : (k n : ℕ) (xs : List ℕ) → replicate k n ++ (n ∷ xs) ≡ replicate (k + 1) n ++ xs
answers_more k n xs = sym (append_assoc (replicate k n) (n ∷ []) xs) ∙ ap (λ (l : List ℕ). l ++ xs) (replicate-append-replicate k 1 n)

-- the answers for no scope
answers_none : (q : Option ℕ) → answers q 0 ≡ []
answers_none None = refl
answers_none (Some n) = refl

-- ---- one scope

-- what k scopes wait for and what a chain answers: its first scope's own answer, for all that wait and for itself, and the rest
module _ (es : List Edge) (path : List ℕ) (s : ℕ) (ss : List ℕ) (t : Tally) (alone : has 0 path ≡ true → t.waiting ≡ 0) where
  abbrev Split : Option ℕ → Type 0
  Split w =
      answers (query_on es path (s ∷ ss)) t.waiting ++ all_on es path (s ∷ ss)
      ≡ answers w (t.waiting + 1) ++ (answers (query_on es path ss) (tallied w (not (has 0 path)) t).waiting ++ all_on es path ss)

  pub split : (w : Option ℕ) → walk_of es path s ≡ w → Split w
  unfolding query_on all_on
  split (Some n) e = rw (e, answers_none (query_on es path ss)) (answers_more t.waiting n (all_on es path ss))
  split None e = go (has 0 path) refl
    where
      waiting : (q : Option ℕ)
          → answers q t.waiting ++ found q (all_on es path ss) (λ n. n ∷ all_on es path ss)
          ≡ answers q (t.waiting + 1) ++ all_on es path ss
      waiting None = refl
      waiting (Some n) = answers_more t.waiting n (all_on es path ss)

      go : (b : Bool) → has 0 path ≡ b → Split None
      go true h = rw (e, h, alone h, answers_none (query_on es path ss))
      go false h = rw (e, h) (waiting (query_on es path ss))

-- ---- the list

drop_none : (xs : List ℕ) → drop 0 xs ≡ xs
drop_none [] = refl
drop_none (x ∷ xs) = refl

drop_replicate : (j m x : ℕ) → drop j (replicate m x) ≡ replicate (m - j) x
drop_replicate zero m x = drop_none (replicate m x) ∙ (let e : m ≡ m - 0 = omega arith in ap (λ (k : ℕ). replicate k x) e)
drop_replicate (suc j) zero x = let e : 0 - suc j ≡ 0 = omega arith in ap (λ (k : ℕ). replicate k x) (sym e)
drop_replicate (suc j) (suc m) x = drop_replicate j m x ∙ (let e : m - j ≡ suc m - suc j = omega arith in ap (λ (k : ℕ). replicate k x) e)

-- answers behind the answers
listed_more : (l ys : List ℕ) → length l + length ys ≤ 1024 → over (listed l) (length l) ys ≡ listed (l ++ ys)
unfolding over
listed_more l ys room =
    let rest : List ℕ = replicate (1024 - length l) 0 in
    let behind : drop (length l + length ys) (l ++ rest) ≡ replicate (1024 - length (l ++ ys)) 0 =
    sym (drop-drop (length ys) (length l) (l ++ rest))
    ∙ ap (drop (length ys)) (drop_at l rest (length l) refl)
    ∙ drop_replicate (length ys) (1024 - length l) 0
    ∙ (let e : 1024 - length l - length ys ≡ 1024 - length (l ++ ys) = omega (arith, length-append l ys) in
    ap (λ (j : ℕ). replicate j 0) e) in
    (λ i. take_at l rest (length l) refl i ++ ys ++ behind i)

-- ---- the loop

-- a chain has a first scope, and no more than 1,024
chain_long : (es : List Edge) (k s : ℕ) → length (chain_of es k s) ≤ k
unfolding chain_of
chain_long es zero s = omega arith
chain_long es (suc k) s = go (λ p. chain_long es k p) (parent_of es s)
  where
    go : ((p : ℕ) → length (chain_of es k p) ≤ k) → (f : Option ℕ) → length (s ∷ found f [] (λ p. chain_of es k p)) ≤ suc k
    go ih (Some p) = omega (arith, ih p)
    go ih None = omega arith

-- how many answers a scope adds
answers_long : (w : Option ℕ) (waits : Bool) (t : Tally)
    → t.written + length (answers w (t.waiting + 1)) ≡ (tallied w waits t).written
answers_long (Some n) waits t = omega (arith, length-replicate (t.waiting + 1) n)
answers_long None true t = omega arith
answers_long None false t = omega arith

-- with each scope, one place more is spoken for at most
tallied_less : (w : Option ℕ) (waits : Bool) (t : Tally)
    → (tallied w waits t).written + (tallied w waits t).waiting ≤ t.written + t.waiting + 1
tallied_less (Some n) waits t = omega arith
tallied_less None true t = omega arith
tallied_less None false t = omega arith

-- a path with a super lets no scope wait
tallied_alone : (w : Option ℕ) (t : Tally) (b : Bool) → b ≡ true → t.waiting ≡ 0 → (tallied w (not b) t).waiting ≡ 0
tallied_alone (Some n) t b e z = refl
tallied_alone None t b e z = rw e z

-- from s the loop has come to `at`: what is listed, what the waiting scopes get, and what the chain from here answers, is all
pub record AskedTo (es : List Edge) (path : List ℕ) (s : ℕ) (list : List ℕ) (at : ℕ) (t : Tally) : Type 0 where
  pub so_far : List ℕ
  pub ends : Ends es at
  pub written : length so_far ≡ t.written
  pub memory : list ≡ listed so_far
  pub alone : has 0 path ≡ true → t.waiting ≡ 0
  pub room : t.written + t.waiting + length (chain es at) ≤ 1024
  pub all : so_far ++ (answers (query_of es at path) t.waiting ++ all_of es at path) ≡ all_of es s path

length_listed : (l : List ℕ) → length l ≤ 1024 → length (listed l) ≡ 1024
length_listed l h = length-append l (replicate (1024 - length l) 0) ∙ omega (arith, length-replicate {A = ℕ} (1024 - length l) 0)

chain_some : (es : List Edge) (s : ℕ) → 0 < length (chain es s)
unfolding chain chain_of
chain_some es s = omega arith

module _ (es : List Edge) (path : List ℕ) (s : ℕ) where
  pub ask_begins : Ends es s → {list : List ℕ} → list ≡ replicate 1024 0
      → AskedTo es path s list s (record { written = 0; waiting = 0 })
  unfolding chain
  ask_begins ends e = record {
    so_far = [];
    ends = ends;
    written = refl;
    memory = e;
    alone = λ h. refl;
    room = omega (arith, chain_long es 1024 s);
    all = ap (λ (l : List ℕ). l ++ all_of es s path) (answers_none (query_of es s path));
  }

  -- one scope is asked: its own answer, and the chain behind it
  module _ {list : List ℕ} {at : ℕ} {t : Tally} (a : AskedTo es path s list at t)
      {w : Option ℕ} (own : walk_of es path at ≡ w) (ss : List ℕ) (here : chain es at ≡ at ∷ ss) where
    place : t.written + t.waiting < 1024
    place = omega (arith, a.room, ap (λ (l : List ℕ). length l) here)

    -- the answers with the scope's own
    now : List ℕ
    now = a.so_far ++ answers w (t.waiting + 1)

    now_long : length now ≡ (tallied w (not (has 0 path)) t).written
    unfolding now
    now_long =
        length-append a.so_far (answers w (t.waiting + 1))
        ∙ ap (λ (k : ℕ). k + length (answers w (t.waiting + 1))) a.written
        ∙ answers_long w (not (has 0 path)) t

    now_all : now ++ (answers (query_on es path ss) (tallied w (not (has 0 path)) t).waiting ++ all_on es path ss) ≡ all_of es s path
    unfolding now query_of all_of
    now_all =
        append_assoc a.so_far (answers w (t.waiting + 1)) _
        ∙ ap (λ (l : List ℕ). a.so_far ++ l)
        (sym (split es path at ss t a.alone w own)
        ∙ (λ i. answers (query_on es path (sym here i)) t.waiting ++ all_on es path (sym here i)))
        ∙ a.all

    now_listed : {after : List ℕ} → after ≡ over list t.written (answers w (t.waiting + 1)) → after ≡ listed now
    unfolding now
    now_listed e =
        e ∙ (λ i. over (a.memory i) (sym a.written i) (answers w (t.waiting + 1)))
        ∙ listed_more a.so_far (answers w (t.waiting + 1)) (omega (arith, a.written, place, fewer w))
      where
        fewer : (w : Option ℕ) → length (answers w (t.waiting + 1)) ≤ t.waiting + 1
        fewer None = omega arith
        fewer (Some n) = omega (arith, length-replicate (t.waiting + 1) n)

  module _ {list : List ℕ} {at : ℕ} {t : Tally} (a : AskedTo es path s list at t) where
    pub ask_length : length list ≡ 1024
    ask_length = ap (λ (l : List ℕ). length l) a.memory ∙ length_listed a.so_far (omega (arith, a.written, a.room))

    -- there is a place for every scope that waits, and for this one
    pub ask_room : t.written + t.waiting < length list
    ask_room = omega (arith, a.room, chain_some es at, ask_length)

    module _ (r : Option ℕ) (own : r ≡ walk_of es path at) {waits : Bool} (super : waits ≡ has 0 path)
        {u : Tally} {after : List ℕ} (noted : Noted list t (not waits) r u after) where
      tally_now : u ≡ tallied r (not (has 0 path)) t
      tally_now = noted.0 ∙ ap (λ (b : Bool). tallied r (not b) t) super

      -- the scope above is next
      pub ask_up : {p : ℕ} → parent_of es at ≡ Some p → AskedTo es path s after p u
      unfolding query_of all_of
      ask_up {p} e =
          let above = chain_rest es at a.ends.1 a.ends.0 e in
          let ss : List ℕ = chain es p in
          record {
            so_far = now a (sym own) ss above.1;
            ends = (a.ends.0, above.0);
            written = now_long a (sym own) ss above.1 ∙ ap (λ (v : Tally). v.written) (sym tally_now);
            memory = now_listed a (sym own) ss above.1 noted.1;
            alone = λ h. ap (λ (v : Tally). v.waiting) tally_now ∙ tallied_alone r t (has 0 path) h (a.alone h);
            room = omega (
              arith,
              a.room,
              tallied_less r (not (has 0 path)) t,
              ap (λ (v : Tally). v.written) tally_now,
              ap (λ (v : Tally). v.waiting) tally_now,
              ap (λ (l : List ℕ). length l) above.1,
            );
            all =
                ap (λ (v : Tally). now a (sym own) ss above.1 ++ (answers (query_on es path ss) v.waiting ++ all_on es path ss))
                tally_now
                ∙ now_all a (sym own) ss above.1;
          }

      -- there is none above
      pub ask_ends : parent_of es at ≡ None → (after ≡ listed (all_of es s path)) × (u.written ≡ length (all_of es s path))
      unfolding query_on all_on
      ask_ends e =
          let alone = chain_alone es at a.ends.1 e in
          let whole : now a (sym own) [] alone ≡ all_of es s path = sym (append-nil _) ∙ now_all a (sym own) [] alone in (
            now_listed a (sym own) [] alone noted.1 ∙ ap (λ (l : List ℕ). listed l) whole,
            ap (λ (v : Tally). v.written) tally_now ∙ sym (now_long a (sym own) [] alone) ∙ ap (λ (l : List ℕ). length l) whole,
          )

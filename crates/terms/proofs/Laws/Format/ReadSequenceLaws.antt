-- What a run of reads leaves, put together from what each leaves.
use mathlib.Core.Path.{◌≡◌, refl, sym, ap, ◌∙◌}
use mathlib.Core.Bool.{Bool, true}
use borrow.Author.Tests.{le-leb}
use lib.Dec.{leb}
use mathlib.Core.List.{List, [], ◌∷◌, ◌++◌, append_assoc, append-nil}
use Prim.Native.Nat.{ℕ, suc, ◌+◌, ◌-◌, ◌≤◌, ◌<◌}
use native.Mathlib.Omega.{arith}
use lib.ListN.{length, length-append}
use Rattle.terms.specs.declared.Place.{Place}
use Rattle.terms.specs.Words.ReadContract.{Step}
use Rattle.terms.specs.Words.ReadContract.{Next, Stopped}
use Rattle.terms.specs.Parser.{Result, got, bind}
use Rattle.terms.specs.Words.Tokens.{put_if, Item, item, Area, put, puts}
use Rattle.terms.specs.Term.{Term, Parts, node, end, num, sub, ◌+++◌, items, part_items, size, sizes}
use Rattle.terms.specs.Words.ReadContract.{Room, Wrote, Only, Left, TermDone, PartsDone, BareDone, after, Closed}
use Rattle.terms.proofs.Laws.Format.StoreLaws.{head_last, puts_append, only_wider, only_one}

-- ---- rows

pub items_append : (ps qs : Parts) → part_items (ps +++ qs) ≡ part_items ps ++ part_items qs
unfolding items
items_append end qs = refl
items_append (num n ps) qs = ap (λ (l : List Item). item 0 n ∷ l) (items_append ps qs)
items_append (sub t ps) qs = rw (items_append ps qs, append_assoc)

pub sizes_append : (ps qs : Parts) → sizes (ps +++ qs) ≡ sizes ps + sizes qs
unfolding size
sizes_append end qs = omega arith
sizes_append (num n ps) qs = sizes_append ps qs
sizes_append (sub t ps) qs = omega (arith, sizes_append ps qs)

-- ---- runs of reads

-- nothing read
pub wrote_none : (s : List ℕ) (p : Place) (d : Area) → p.at ≤ length s → Wrote s p d d [] 0 p
unfolding puts
wrote_none s p d h = record { stored = λ n. refl; only = refl; limit = refl; tokens = omega arith; counts = omega arith; pace = omega arith; paced = omega arith; inside = h }

-- there is room after what was read
pub room_next : (s : List ℕ) (p q : Place) → q.at ≤ length s → q.top + p.at ≤ q.at + p.top → q.nodes + p.at ≤ q.at + p.nodes → Room s p → Room s q
room_next s p q inside pace paced r = record {
  inside = inside;
  tokens = omega (arith, pace, inside, r.tokens, r.inside);
  counts = omega (arith, paced, inside, r.counts, r.inside);
}

module _ (s : List ℕ) (p : Place) (d e : Area) (ws : List Item) (n : ℕ) (q : Place) (w : Wrote s p d e ws n q) where
  -- there is room after it
  pub room_after : Room s p → Room s q
  room_after r = room_next s p q w.inside w.pace w.paced r

  -- one read and the next
  pub then_wrote : (f : Area) (vs : List Item) (m : ℕ) (u : Place) → Wrote s q e f vs m u → Wrote s p d f (ws ++ vs) (n + m) u
  then_wrote f vs m u v = record {
    stored = λ h. v.stored (omega (arith, w.limit)) ∙ ap (λ (x : Area). puts x q.top vs) (w.stored (omega (arith, v.counts))) ∙ sym (puts_append ws d p.top q.top vs w.tokens);
    only = only_wider e f q.top (length vs) v.only p.top (length (ws ++ vs)) (omega (arith, w.tokens)) (omega (arith, w.tokens, length-append ws vs)) ∙ only_wider d e p.top (length ws) w.only p.top (length (ws ++ vs)) (omega arith) (omega (arith, length-append ws vs));
    limit = v.limit ∙ w.limit;
    tokens = omega (arith, length-append ws vs, w.tokens, v.tokens);
    counts = omega (arith, w.counts, v.counts);
    pace = omega (arith, w.pace, v.pace);
    paced = omega (arith, w.paced, v.paced);
    inside = v.inside;
  }

  -- one read and a refusal
  pub then_left : (f : Area) → Left s q e f → Left s p d f
  then_left f b =
      only_wider e f q.top (length s - q.at) b p.top (length s - p.at) (omega (arith, w.tokens)) (omega (arith, w.pace, w.inside))
      ∙ only_wider d e p.top (length ws) w.only p.top (length s - p.at) (omega arith) (omega (arith, w.pace, w.inside, w.tokens))

-- what was read before, and then the rest
pub after_done : (s : List ℕ) (p : Place) (d e : Area) (ps : Parts) (q : Place) → Wrote s p d e (part_items ps) (sizes ps) q
    → (f : Area) (found : Result Parts) (r : Step) → PartsDone s found q e f r → PartsDone s (after ps found) p d f r
after_done s p d e ps q w f found (Next u) x = (
  ps +++ x.0,
  simp x.1,
  rw (items_append ps x.0, sizes_append ps x.0) (then_wrote s p d e _ _ q w f _ _ u x.2),
)
after_done s p d e ps q w f found (Stopped c) x = (simp x.0, then_left s p d e _ _ q w f x.1)

-- a number as a row, and a term as a row
pub wrote_num : (s : List ℕ) (p : Place) (d e : Area) (v : ℕ) (q : Place) → Wrote s p d e (item 0 v ∷ []) 0 q → Wrote s p d e (part_items (num v end)) (sizes (num v end)) q
unfolding items size
wrote_num s p d e v q w = w

pub wrote_sub : (s : List ℕ) (p : Place) (d e : Area) (t : Term) (q : Place) → Wrote s p d e (items t) (size t) q → Wrote s p d e (part_items (sub t end)) (sizes (sub t end)) q
unfolding items size
wrote_sub s p d e t q w = record {
  stored = λ h. rw append-nil (w.stored h);
  only = rw append-nil w.only;
  limit = w.limit;
  tokens = rw append-nil w.tokens;
  counts = omega (arith, w.counts);
  pace = w.pace;
  paced = w.paced;
  inside = w.inside;
}

-- nothing read, as a row
pub none_done : (s : List ℕ) (p : Place) (d : Area) → p.at ≤ length s → PartsDone s (got end p.at) p d d (Next p)
unfolding items size
none_done s p d h = (end, refl, wrote_none s p d h)

-- ---- a node's head, stored after its parts

-- the place of a node's parts
abbrev pub inside : Place → Place
inside p = record { at = p.at + 1; top = p.top + 1; nodes = p.nodes + 1; limit = p.limit }

-- a token that is stored where the test holds
pub on : {b : Bool} → b ≡ true → (d : Area) (i k v : ℕ) → put_if b d i k v ≡ put d i k v
on h d i k v = rw h

add-two : (n : ℕ) → n + 2 ≡ suc (suc n)
add-two n = omega arith

-- a part changed, and then the token before it
headed : (d e f : Area) (i n m : ℕ) → Only (i + 1) n d e → Only i 1 e f → 1 + n ≤ m → Only i m d f
headed d e f i n m a b h = only_wider e f i 1 b i m (omega arith) (omega arith) ∙ only_wider d e (i + 1) n a i m (omega arith) (omega arith)

-- a term read as a node with the tag k
abbrev pub noded : ℕ → Result Parts → Result Term
noded k r = bind r (λ ps n. got (node k ps) n)

pub node_done : (s : List ℕ) (p : Place) (d e f : Area) (tag : ℕ) (found : Result Parts) (r : Step)
    → p.at < length s → PartsDone s found (inside p) d e r → Closed tag p.top e f r → TermDone s (noded tag found) p d f r
unfolding items size
node_done s p d e f tag found (Next q) here x c =
    let w = x.2 in
    let n : q.top - p.top ≡ suc (length (part_items x.0)) = omega (arith, w.tokens) in (
      node tag x.0,
      simp x.1,
      record {
        stored =
            λ h. c ∙ on (le-leb q.nodes q.limit (omega (arith, w.limit))) e p.top (tag + 2) (q.top - p.top) ∙ ap (λ (k : ℕ). put e p.top (tag + 2) k) n ∙ ap (λ (y : Area). put y p.top (tag + 2) (suc (length (part_items x.0)))) (w.stored h)
            ∙ head_last (part_items x.0) d p.top (tag + 2) (suc (length (part_items x.0)))
            ∙ ap (λ (k : ℕ). puts d p.top (item k (suc (length (part_items x.0))) ∷ part_items x.0)) (add-two tag);
        only = headed d e f p.top (length (part_items x.0)) (suc (length (part_items x.0))) w.only (rw c (only_one (leb q.nodes q.limit) e p.top (tag + 2) (q.top - p.top))) (omega arith);
        limit = w.limit;
        tokens = omega (arith, w.tokens);
        counts = omega (arith, w.counts);
        pace = omega (arith, w.pace);
        paced = omega (arith, w.paced);
        inside = w.inside;
      },
    )
node_done s p d e f tag found (Stopped c) here x y =
    (simp x.0, rw y (only_wider d e (p.top + 1) (length s - (p.at + 1)) x.1 p.top (length s - p.at) (omega arith) (omega arith)))

-- ---- a bare nominal's head

-- the place of its parts
abbrev pub under : Place → Place
under p = record { at = p.at; top = p.top + 1; nodes = p.nodes; limit = p.limit }

pub bare_done : (s : List ℕ) (p : Place) (d e f : Area) (found : Result Parts) (r : Step)
    → PartsDone s found (under p) d e r → Closed 20 p.top e f r → BareDone s (noded 20 found) p d f r
unfolding items
bare_done s p d e f found (Next q) x c =
    let w = x.2 in
    let n : q.top - p.top ≡ suc (length (part_items x.0)) = omega (arith, w.tokens) in (
      x.0,
      simp x.1,
      record {
        stored =
            λ h. c ∙ on (le-leb q.nodes q.limit (omega (arith, w.limit))) e p.top 22 (q.top - p.top) ∙ ap (λ (k : ℕ). put e p.top 22 k) n ∙ ap (λ (y : Area). put y p.top 22 (suc (length (part_items x.0)))) (w.stored h)
            ∙ head_last (part_items x.0) d p.top 22 (suc (length (part_items x.0)));
        only = headed d e f p.top (length (part_items x.0)) (suc (length (part_items x.0))) w.only (rw c (only_one (leb q.nodes q.limit) e p.top 22 (q.top - p.top))) (omega arith);
        limit = w.limit;
        tokens = omega (arith, w.tokens);
        counts = w.counts;
        pace = omega (arith, w.pace);
        paced = w.paced;
        inside = w.inside;
      },
    )
bare_done s p d e f found (Stopped c) x y =
    (simp x.0, rw y (only_wider d e (p.top + 1) (length s - p.at) x.1 p.top (length s - p.at + 1) (omega arith) (omega arith)))

-- The frames of a text that nobody shares any more: those off the free list go to its tail.
use Rattle.std.proofs.Common.{◌≡◌, ◌≢◌, inl, inr, ℕ, zero, suc, ◌+◌, ◌≤◌, Bool, true, false, cond, List, [], ◌∷◌, ◌++◌, length, set, Option, Some, None, refl, sym, ap, ◌∙◌, subst, arith, set-set}
use Rattle.std.proofs.lemmas.Bool.{cases_eq, cases_lt}
use Rattle.std.proofs.lemmas.Option.{same_Some}
use Rattle.std.proofs.lemmas.List.{length-set, get_or-set_same, get_or-set_other, get_or_past}
use Rattle.vm_facts.specs.declared.page.Page.{Page}
use Rattle.vm_facts.specs.declared.page.Page.TheVariants.{Text}
use Rattle.frame_state.specs.Frame.{Frame}
use Rattle.core_map.specs.declared.slot.Slot.{Slot as Token}
use Rattle.core_map.specs.declared.slot.Slot.TheVariants as tokens
use Rattle.core_map.specs.declared.slot.Whose.TheVariants as owners
use Rattle.core_map.specs.Slots.{slot_at, slot_page as token_page, token_of, slot_owner, listings}
use Rattle.vm_facts.specs.Lists.{times}
use Rattle.vm_facts.proofs.Lists.{times-append, times_other}
use Rattle.page_laws.proofs.Lists.Frames.{times_one}
use Rattle.core_map.specs.Frames.{Frames}
use Rattle.page_laws.proofs.Lists.Local.{none_some}
use Rattle.flat_state.proofs.PageNames.{same_page_is, same_page_self}
use Rattle.flat_state.specs.PageNames.{same_page}
use Rattle.kernel_tables.specs.TableViewShown.{is_away}
use Rattle.kernel_tables.specs.Found.{holds_it, found_from, frame_holding}
use Rattle.kernel_tables.specs.View.{Flown, page_by, bytes_by}
use Rattle.kernel_tables.specs.Gone.{left_at, left_in, left_page, left_pages}
use Rattle.kernel_tables.proofs.Finds.{not_held, holding_none}

-- The slot of a frame once it is on the free list.
abbrev pub at_rest : Token → Token
at_rest (tokens.Free token page) = tokens.Free token page
at_rest (tokens.Resident token page dirty) = tokens.Free token (Some page)
at_rest tokens.Away = tokens.Away

rest_page : (s : Token) → token_page (at_rest s) ≡ token_page s
rest_page (tokens.Free token page) = refl
rest_page _ = refl

rest_away : (s : Token) → is_away (at_rest s) ≡ is_away s
rest_away (tokens.Free token page) = refl
rest_away _ = refl

rest_held : (s : Token) (o : Option Flown) → page_by (at_rest s) o ≡ page_by s o
rest_held (tokens.Free token page) o = refl
rest_held _ o = refl

rest_bytes : (s : Token) (o : Option Flown) → bytes_by (at_rest s) o ≡ bytes_by s o
rest_bytes (tokens.Free token page) o = refl
rest_bytes _ o = refl

-- Each frame has its token and its page, on the free list or off it.
pub record SameFrames (a b : List Token) : Type 0 where
  pub count : length b ≡ length a
  pub resting : (f : ℕ) → at_rest (slot_at b f) ≡ at_rest (slot_at a f)

module _ (a b : List Token) (s : SameFrames a b) where
  pub same_page_at : (f : ℕ) → token_page (slot_at b f) ≡ token_page (slot_at a f)
  same_page_at f = sym (rest_page (slot_at b f)) ∙ ap token_page (s.resting f) ∙ rest_page (slot_at a f)

  pub same_away_at : (f : ℕ) → is_away (slot_at b f) ≡ is_away (slot_at a f)
  same_away_at f = sym (rest_away (slot_at b f)) ∙ ap is_away (s.resting f) ∙ rest_away (slot_at a f)

  pub same_held_at : (f : ℕ) (o : Option Flown) → page_by (slot_at b f) o ≡ page_by (slot_at a f) o
  same_held_at f o = sym (rest_held (slot_at b f) o) ∙ ap (λ (x : Token). page_by x o) (s.resting f) ∙ rest_held (slot_at a f) o

  pub same_bytes_at : (f : ℕ) (o : Option Flown) → bytes_by (slot_at b f) o ≡ bytes_by (slot_at a f) o
  same_bytes_at f o = sym (rest_bytes (slot_at b f) o) ∙ ap (λ (x : Token). bytes_by x o) (s.resting f) ∙ rest_bytes (slot_at a f) o

pub frames_self : (a : List Token) → SameFrames a a
frames_self a = record { count = refl; resting = λ f. refl }

frames_both : (a b c : List Token) → SameFrames a b → SameFrames b c → SameFrames a c
frames_both a b c s t = record { count = t.count ∙ s.count; resting = λ f. t.resting f ∙ s.resting f }

-- so a page is found in the same frame
found_same : (n : ℕ) (a b : List Token) (q : Page) → length b ≡ length a → ((f : ℕ) → token_page (slot_at b f) ≡ token_page (slot_at a f))
    → found_from n b q ≡ found_from n a q
found_same n [] [] q l h = refl
found_same n [] (y ∷ ys) q l h = absurd cc
found_same n (x ∷ xs) [] q l h = absurd cc
found_same n (x ∷ xs) (y ∷ ys) q l h =
    ap (λ (o : Option Page). cond (holds_it o q) (Some n) (found_from (n + 1) ys q)) (h 0)
    ∙ ap (λ (o : Option ℕ). cond (holds_it (token_page x) q) (Some n) o) (found_same (n + 1) xs ys q (omega arith) (λ f. h (suc f)))

pub same_found : (a b : List Token) (q : Page) → SameFrames a b → frame_holding b q ≡ frame_holding a q
same_found a b q s = found_same 0 a b q s.count (same_page_at a b s)

-- The frame that is found holds the page, and no other does.

holds_hit : (o : Option Page) (q : Page) → o ≡ Some q → holds_it o q ≡ true
holds_hit None q e = absurd cc
holds_hit (Some r) q e = ap (λ (x : Page). same_page x q) (same_Some r q e) ∙ same_page_self q

found_here : (n : ℕ) (ss : List Token) (f : ℕ) (q : Page) → token_page (slot_at ss f) ≡ Some q
    → ((g : ℕ) → token_page (slot_at ss g) ≡ Some q → g ≡ f) → found_from n ss q ≡ Some (n + f)
found_here n [] f q e u = none_some q e
found_here n (s ∷ ss) zero q e u = ap (λ (b : Bool). cond b (Some n) (found_from (n + 1) ss q)) (holds_hit (token_page s) q e) ∙ ap (λ (k : ℕ). Some k) (omega arith)
found_here n (s ∷ ss) (suc f) q e u =
    ap (λ (b : Bool). cond b (Some n) (found_from (n + 1) ss q)) (not_held (token_page s) q (λ h. absurd (let k : 0 ≡ suc f = u 0 h in omega arith)))
    ∙ found_here (n + 1) ss f q e (λ g h. let k : suc g ≡ suc f = u (suc g) h in omega arith)
    ∙ ap (λ (k : ℕ). Some k) (omega arith)

pub holding_here : (ss : List Token) (f : ℕ) (q : Page) → token_page (slot_at ss f) ≡ Some q
    → ((g : ℕ) → token_page (slot_at ss g) ≡ Some q → g ≡ f) → frame_holding ss q ≡ Some f
holding_here ss f q e u = found_here 0 ss f q e u ∙ ap (λ (k : ℕ). Some k) (omega arith)

found_page : (n : ℕ) (ss : List Token) (f : ℕ) (q : Page) → found_from n ss q ≡ Some f
    → (g : ℕ) × (f ≡ n + g) × (token_page (slot_at ss g) ≡ Some q)
found_page n [] f q e = absurd cc
found_page n (s ∷ ss) f q e = go (holds_it (token_page s) q) refl e (λ h. found_page (n + 1) ss f q h)
  where
    holds : (o : Option Page) → holds_it o q ≡ true → o ≡ Some q
    holds None k = absurd cc
    holds (Some r) k = ap (λ (x : Page). Some x) (same_page_is r q k)

    go : (b : Bool) → holds_it (token_page s) q ≡ b → cond b (Some n) (found_from (n + 1) ss q) ≡ Some f
        → (found_from (n + 1) ss q ≡ Some f → (g : ℕ) × (f ≡ n + 1 + g) × (token_page (slot_at ss g) ≡ Some q))
        → (g : ℕ) × (f ≡ n + g) × (token_page (slot_at (s ∷ ss) g) ≡ Some q)
    go true k h behind = (0, (let m : n ≡ f = same_Some n f h in omega arith), holds (token_page s) k)
    go false k h behind = let x = behind h in (suc x.0, (let m = x.1 in omega arith), x.2)

pub holding_page : (ss : List Token) (f : ℕ) (q : Page) → frame_holding ss q ≡ Some f → token_page (slot_at ss f) ≡ Some q
holding_page ss f q e = let x = found_page 0 ss f q e in subst (λ (g : ℕ). token_page (slot_at ss g) ≡ Some q) (let k = x.1 in omega arith) x.2

-- One page.

pub left_none : (map : Frames) (q : Page) → frame_holding map.slots q ≡ None → left_page map q ≡ map
left_none map q e = ap (left_in map) e

pub left_some : (map : Frames) (q : Page) (f : ℕ) (s : Token) → frame_holding map.slots q ≡ Some f → slot_at map.slots f ≡ s
    → left_page map q ≡ left_at map f s
left_some map q f s e k = ap (left_in map) e ∙ ap (left_at map f) k

-- what is so of the map as it was, and with a resident frame on the free list
left_cases : (P : Frames → Type 0) (map : Frames) (q : Page) → P map
    → ((f : ℕ) (token : Frame) (page : Page) (dirty : Bool) → frame_holding map.slots q ≡ Some f → slot_at map.slots f ≡ tokens.Resident token page dirty
    → P (left_at map f (tokens.Resident token page dirty)))
    → P (left_page map q)
left_cases P map q still moved = go (frame_holding map.slots q) refl
  where
    at : (f : ℕ) (s : Token) → frame_holding map.slots q ≡ Some f → slot_at map.slots f ≡ s → P (left_at map f s)
    at f (tokens.Free token page) e k = still
    at f (tokens.Resident token page dirty) e k = moved f token page dirty e k
    at f tokens.Away e k = still

    go : (o : Option ℕ) → frame_holding map.slots q ≡ o → P (left_in map o)
    go None e = still
    go (Some f) e = at f (slot_at map.slots f) e refl

set_here : (slots : List Token) (f : ℕ) (token : Frame) (page : Page) (dirty : Bool) (x : Token)
    → slot_at slots f ≡ tokens.Resident token page dirty → slot_at (set slots f x) f ≡ x
set_here slots f token page dirty x e = elim (cases_lt f (length slots)) [
  | inl l ↦ get_or-set_same slots f x tokens.Away l
  | inr l ↦ absurd (let k : tokens.Away ≡ tokens.Resident token page dirty = sym (get_or_past slots f tokens.Away l) ∙ e in cc)
]

left_same : (map : Frames) (q : Page) → SameFrames map.slots (left_page map q).slots
left_same map q = left_cases (λ (m : Frames). SameFrames map.slots m.slots) map q (frames_self map.slots)
    (λ f token page dirty e k.
    let x : Token = tokens.Free token (Some page) in
    record {
      count = length-set map.slots f x;
      resting = λ g. elim (cases_eq g f) [
        | inl i ↦ ap at_rest (ap (slot_at (set map.slots f x)) i ∙ set_here map.slots f token page dirty x k) ∙ sym (ap at_rest (ap (slot_at map.slots) i ∙ k))
        | inr n ↦ ap at_rest (get_or-set_other map.slots f g x tokens.Away n)
      ];
    })

-- each free frame stands once on the list
abbrev pub AreListed : Frames → Type 0
AreListed map = (f : ℕ) → times f map.free ≡ listings (slot_at map.slots f)

left_listed : (map : Frames) (q : Page) → AreListed map → AreListed (left_page map q)
left_listed map q h = left_cases AreListed map q h
    (λ f token page dirty e k g.
    let x : Token = tokens.Free token (Some page) in
    let more = times-append g map.free (f ∷ []) in
    elim (cases_eq g f) [
      | inl i ↦
          let was : times g map.free ≡ 0 = h g ∙ ap listings (ap (slot_at map.slots) i ∙ k) in
          let one : times g (f ∷ []) ≡ 1 = ap (λ (n : ℕ). times n (f ∷ [])) i ∙ times_one f in
          let now : listings (slot_at (set map.slots f x) g) ≡ 1 = ap listings (ap (slot_at (set map.slots f x)) i ∙ set_here map.slots f token page dirty x k) in
          omega arith
      | inr n ↦
          let none : times g (f ∷ []) ≡ 0 = times_other g f [] (λ i. n (sym i)) in
          let now : listings (slot_at (set map.slots f x) g) ≡ listings (slot_at map.slots g) = ap listings (get_or-set_other map.slots f g x tokens.Away n) in
          let was = h g in
          omega arith
    ])

-- what is resident was so
left_resident : (map : Frames) (q : Page) (g : ℕ) (token : Frame) (r : Page) (mark : Bool)
    → slot_at (left_page map q).slots g ≡ tokens.Resident token r mark → slot_at map.slots g ≡ tokens.Resident token r mark
left_resident map q g token r mark = left_cases (λ (m : Frames). slot_at m.slots g ≡ tokens.Resident token r mark → slot_at map.slots g ≡ tokens.Resident token r mark) map q (λ h. h)
    (λ f t page dirty e k h. elim (cases_eq g f) [
      | inl i ↦ absurd (let z : tokens.Free t (Some page) ≡ tokens.Resident token r mark =
          sym (ap (slot_at (set map.slots f (tokens.Free t (Some page)))) i ∙ set_here map.slots f t page dirty (tokens.Free t (Some page)) k) ∙ h in cc)
      | inr n ↦ sym (get_or-set_other map.slots f g (tokens.Free t (Some page)) tokens.Away n) ∙ h
    ])

-- another page stays as it was
left_other : (map : Frames) (q r : Page) (g : ℕ) → token_page (slot_at map.slots g) ≡ Some r → r ≢ q
    → slot_at (left_page map q).slots g ≡ slot_at map.slots g
left_other map q r g h d = left_cases (λ (m : Frames). slot_at m.slots g ≡ slot_at map.slots g) map q refl
    (λ f token page dirty e k. get_or-set_other map.slots f g (tokens.Free token (Some page)) tokens.Away
    (λ i. d (same_Some r q (sym h ∙ ap (λ (n : ℕ). token_page (slot_at map.slots n)) i ∙ holding_page map.slots f q e))))

-- All pages of a text.

pub pages_same : (map : Frames) (i v : ℕ) → SameFrames map.slots (left_pages map i v).slots
pages_same map i zero = frames_self map.slots
pages_same map i (suc v) = frames_both map.slots (left_pages map i v).slots (left_pages map i (suc v)).slots (pages_same map i v) (left_same (left_pages map i v) (Text i v))

pub pages_listed : (map : Frames) (i v : ℕ) → AreListed map → AreListed (left_pages map i v)
pages_listed map i zero h = h
pages_listed map i (suc v) h = left_listed (left_pages map i v) (Text i v) (pages_listed map i v h)

pub pages_resident : (map : Frames) (i v g : ℕ) (token : Frame) (r : Page) (mark : Bool)
    → slot_at (left_pages map i v).slots g ≡ tokens.Resident token r mark → slot_at map.slots g ≡ tokens.Resident token r mark
pages_resident map i zero g token r mark h = h
pages_resident map i (suc v) g token r mark h = pages_resident map i v g token r mark (left_resident (left_pages map i v) (Text i v) g token r mark h)

-- no page is in two frames
abbrev pub AreApart : List Token → Type 0
AreApart slots = (f g : ℕ) (q : Page) → token_page (slot_at slots f) ≡ Some q → token_page (slot_at slots g) ≡ Some q → f ≡ g

pub pages_apart : (map : Frames) (i v : ℕ) → AreApart map.slots → AreApart (left_pages map i v).slots
pages_apart map i v u f g q a b =
    let s = same_page_at map.slots (left_pages map i v).slots (pages_same map i v) in
    u f g q (sym (s f) ∙ a) (sym (s g) ∙ b)

-- none of those pages is off the free list
pub pages_gone : (map : Frames) (i v g : ℕ) (token : Frame) (w : ℕ) (mark : Bool) → AreApart map.slots
    → slot_at (left_pages map i v).slots g ≡ tokens.Resident token (Text i w) mark → v ≤ w
pages_gone map i zero g token w mark u h = omega arith
pages_gone map i (suc v) g token w mark u h =
    let before : Frames = left_pages map i v in
    let was : slot_at before.slots g ≡ tokens.Resident token (Text i w) mark = left_resident before (Text i v) g token (Text i w) mark h in
    let l : v ≤ w = pages_gone map i v g token w mark u was in
    elim (cases_eq w v) [
      | inl e ↦
          let here : token_page (slot_at before.slots g) ≡ Some (Text i v) = ap token_page was ∙ ap (λ (n : ℕ). Some (Text i n)) e in
          let found : frame_holding before.slots (Text i v) ≡ Some g = holding_here before.slots g (Text i v) here (λ f k. pages_apart map i v u f g (Text i v) k here) in
          let moved : slot_at (left_page before (Text i v)).slots g ≡ tokens.Free token (Some (Text i w)) =
          ap (λ (m : Frames). slot_at m.slots g) (left_some before (Text i v) g (tokens.Resident token (Text i w) mark) found was)
          ∙ set_here before.slots g token (Text i w) mark (tokens.Free token (Some (Text i w))) was in
          absurd (let z : tokens.Free token (Some (Text i w)) ≡ tokens.Resident token (Text i w) mark = sym moved ∙ h in cc)
      | inr n ↦ omega arith
    ]

-- a page after them stays as it was
pub pages_behind : (map : Frames) (i v g w : ℕ) → token_page (slot_at map.slots g) ≡ Some (Text i w) → v ≤ w
    → slot_at (left_pages map i v).slots g ≡ slot_at map.slots g
pages_behind map i zero g w h l = refl
pages_behind map i (suc v) g w h l =
    let number : Text i w ≡ Text i v → w ≡ v = λ e. cc in
    let before : slot_at (left_pages map i v).slots g ≡ slot_at map.slots g = pages_behind map i v g w h (omega arith) in
    left_other (left_pages map i v) (Text i v) (Text i w) g (ap token_page before ∙ h) (λ e. absurd (let k : w ≡ v = number e in omega arith)) ∙ before

-- What the core map does with the frame that it finds.

pub found_none : (map : Frames) (q : Page) → ((g : ℕ) → token_page (slot_at map.slots g) ≢ Some q) → map ≡ left_page map q
found_none map q h = sym (left_none map q (holding_none map.slots q h))

pub found_idle : (map : Frames) (q : Page) (f : ℕ) → AreApart map.slots → token_page (slot_at map.slots f) ≡ Some q
    → ((page : Page) → slot_owner (slot_at map.slots f) ≢ owners.Resident page) → map ≡ left_page map q
found_idle map q f u e n = go (slot_at map.slots f) refl
  where
    found : frame_holding map.slots q ≡ Some f
    found = holding_here map.slots f q e (λ g h. u g f q h e)

    go : (s : Token) → slot_at map.slots f ≡ s → map ≡ left_page map q
    go (tokens.Free token page) k = sym (left_some map q f (tokens.Free token page) found k)
    go (tokens.Resident token page dirty) k = absurd (n page (ap slot_owner k))
    go tokens.Away k = sym (left_some map q f tokens.Away found k)

frames_ext : (a b : Frames) → a.free ≡ b.free → a.slots ≡ b.slots → a ≡ b
frames_ext a b e k = ap (λ (x : List ℕ). record a { free = x }) e ∙ ap (λ (x : List Token). record b { slots = x }) k

pub found_resident : (map lifted next : Frames) (token given : Frame) (page q : Page) (f : ℕ) → AreApart map.slots
    → token_page (slot_at map.slots f) ≡ Some q → owners.Resident page ≡ slot_owner (slot_at map.slots f)
    → token ≡ token_of (slot_at map.slots f) → token.number ≡ f → lifted.free ≡ map.free → lifted.slots ≡ set map.slots f tokens.Away → given ≡ token
    → next.free ≡ lifted.free ++ given.number ∷ [] → next.slots ≡ set lifted.slots given.number (tokens.Free given (Some page)) → next ≡ left_page map q
found_resident map lifted next token given page q f u e o t n lf ls g nf ns = go (slot_at map.slots f) refl
  where
    number : given.number ≡ f
    number = ap (λ (x : Frame). x.number) g ∙ n

    go : (s : Token) → slot_at map.slots f ≡ s → next ≡ left_page map q
    go (tokens.Free a b) k = absurd (let z : owners.Resident page ≡ owners.Free b = o ∙ ap slot_owner k in cc)
    go tokens.Away k = absurd (let z : owners.Resident page ≡ owners.Away = o ∙ ap slot_owner k in cc)
    go (tokens.Resident a b d) k =
        let same : page ≡ b = (let z : owners.Resident page ≡ owners.Resident b = o ∙ ap slot_owner k in cc) in
        let is : given ≡ a = g ∙ t ∙ ap token_of k in
        frames_ext next (left_at map f (tokens.Resident a b d))
        (nf ∙ ap (λ (x : List ℕ). x ++ given.number ∷ []) lf ∙ ap (λ (m : ℕ). map.free ++ m ∷ []) number)
        (ns ∙ ap (λ (x : List Token). set x given.number (tokens.Free given (Some page))) ls ∙ ap (λ (m : ℕ). set (set map.slots f tokens.Away) m (tokens.Free given (Some page))) number
        ∙ set-set map.slots f tokens.Away (tokens.Free given (Some page)) ∙ ap (λ (x : Frame). set map.slots f (tokens.Free x (Some page))) is
        ∙ ap (λ (r : Page). set map.slots f (tokens.Free a (Some r))) same)
        ∙ sym (left_some map q f (tokens.Resident a b d) (holding_here map.slots f q e (λ h j. u h f q j e)) k)

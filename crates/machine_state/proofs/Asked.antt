-- A machine that was asked for pieces of swap space.
use Rattle.std.proofs.Common.{◌≡◌, ℕ, ◌+◌, ◌-◌, ◌<◌, ◌≤◌, Bool, true, false, List, length, take, Result, Ok, Err, refl, sym, ap, ◌∙◌, subst, arith}
use Rattle.std.specs.Prelude.{is_ok, is_err, IfOk, OnOk, OnErr}
use Rattle.std.proofs.lemmas.List.{length-append, take-append-le, take_all}
use Rattle.vm_facts.specs.declared.stop.NoMemory.{NoMemory}
use Rattle.swap_book.specs.declared.Held.{Held}
use Rattle.swap_book.specs.Holdings.{Holdings}
use Rattle.swap_book.specs.Placing.{Wanted, place_all}
use Rattle.swap_book.specs.Book.{Book, with_holdings, grown_book}
use Rattle.swap_book.proofs.GrowthLaws.{Added, place_all_adds}
use Rattle.kernel_model.specs.Kernel.{Kernel}
use Rattle.swap_wants.specs.declared.Want.{Want}
use Rattle.table_steps.specs.Tables.{Tables}
use Rattle.machine_state.specs.declared.machine.Machine.TheInside.{Inside}
use Rattle.swap_wants.specs.Wants.{found_for, fits_for, book_asked}
use Rattle.table_steps.specs.Conditions.{HasStopped}
use Rattle.table_steps.specs.Sourced.{AreSourced}
use Rattle.table_steps.specs.Machine.{Standing, KernelRuns, lists_of, kernel_by, images_of, image_at, before_of}
use Rattle.machine_state.specs.Fields.{standing_of, RunsNow, RunsInside}
use Rattle.machine_state.proofs.Standings.{stands_now, whole_now}

-- What is known of the book.

split_found : (b now : Book) (x : Result Holdings ℕ) → true ≡ is_ok x → now ≡ grown_book b x → (hs : Holdings) × (x ≡ Ok hs) × (now ≡ with_holdings b hs)
split_found b now (Ok hs) t e = (hs, refl, e)
split_found b now (Err n) t e = absurd cc

pub found_ok : (r : Result Bool NoMemory) (b now : Book) (ws : List Want) → r ≡ Ok true → IfOk r (λ fits. fits ≡ fits_for b.size b.holdings ws)
    → OnOk r (now ≡ book_asked true b ws)
    → (hs : Holdings) × (found_for b.size b.holdings ws ≡ Ok hs) × (now ≡ with_holdings b hs)
found_ok r b now ws e answer book =
    split_found b now (found_for b.size b.holdings ws) (subst (λ (x : Result Bool NoMemory). IfOk x (λ fits. fits ≡ fits_for b.size b.holdings ws)) e answer)
    (subst (λ (x : Result Bool NoMemory). OnOk x (now ≡ book_asked true b ws)) e book)

none_found : (b now : Book) (x : Result Holdings ℕ) → false ≡ is_ok x → now ≡ grown_book b x → now ≡ b
none_found b now (Ok hs) t e = absurd cc
none_found b now (Err n) t e = e

pub found_none : (r : Result Bool NoMemory) (b now : Book) (ws : List Want) → r ≡ Ok false → IfOk r (λ fits. fits ≡ fits_for b.size b.holdings ws)
    → OnOk r (now ≡ book_asked true b ws) → now ≡ b
found_none r b now ws e answer book =
    none_found b now (found_for b.size b.holdings ws) (subst (λ (x : Result Bool NoMemory). IfOk x (λ fits. fits ≡ fits_for b.size b.holdings ws)) e answer)
    (subst (λ (x : Result Bool NoMemory). OnOk x (now ≡ book_asked true b ws)) e book)

pub only_looked : (r : Result Bool NoMemory) (b now : Book) (ws : List Want) → OnOk r (now ≡ book_asked false b ws) → OnErr r (now ≡ b) → now ≡ b
only_looked (Ok fits) b now ws book err = book
only_looked (Err e) b now ws book err = err

pub asked_more : (size : ℕ) (old hs : Holdings) (ws : List Wanted) → place_all size old ws ≡ Ok hs → length old ≤ length hs
asked_more size old hs ws e =
    let a : Added old hs ws = place_all_adds size old hs ws e in
    let l : length hs ≡ length old + length a.pieces = ap (λ (xs : List Held). length xs) a.is ∙ length-append old a.pieces in
    omega (arith, l)

asked_before : (size : ℕ) (old hs : Holdings) (ws : List Wanted) → place_all size old ws ≡ Ok hs → take (length hs - (length hs - length old)) hs ≡ old
asked_before size old hs ws e =
    let a : Added old hs ws = place_all_adds size old hs ws e in
    let more : length old ≤ length hs = asked_more size old hs ws e in
    let n : length hs - (length hs - length old) ≡ length old = omega (arith, more) in
    ap (λ (k : ℕ). take k hs) n ∙ ap (take (length old)) a.is ∙ take-append-le (length old) old a.pieces (omega arith) ∙ take_all (length old) old (omega arith)

-- where the pieces couldn't be looked for, the book is as before
pub unlooked : (r : Result Bool NoMemory) (b now : Book) → is_err r ≡ true → OnErr r (now ≡ b) → now ≡ b
unlooked (Ok fits) b now e h = absurd cc
unlooked (Err none) b now e h = h

-- Where no pieces are kept, all is as before.

abbrev pub booked : Inside → Book → ℕ → Inside
booked m b found = record m { tables = record m.tables { book = b; found = found } }

pub asked_none : (m : Inside) (s : Standing) (b : Book) → RunsInside m → standing_of m ≡ s → s.kernel.stopped ≡ false → b ≡ m.tables.book
    → RunsNow (booked m b m.tables.found)
asked_none m s b h e r is = subst (λ (x : Book). RunsNow (booked m x m.tables.found)) (sym is) (stands_now m s h e r)

pub standing_none : (m : Inside) (s : Standing) (b : Book) → standing_of m ≡ s → b ≡ m.tables.book → standing_of (booked m b m.tables.found) ≡ s
standing_none m s b e is = ap (λ (x : Book). standing_of (booked m x m.tables.found)) is ∙ e

module _ (m : Inside) (s : Standing) (b : Book) (found : ℕ) (ws : List Wanted) (hs : Holdings) where
  -- Where they are, they stand beside the holdings.
  pub record Asked : Type 0 where
    pub view_is : standing_of m ≡ s
    pub whole : s.before ≡ s.kernel.holdings
    pub placed : place_all m.tables.book.size m.tables.book.holdings ws ≡ Ok hs
    pub book : b ≡ with_holdings m.tables.book hs
    pub count : found ≡ length b.holdings - length m.tables.book.holdings

  before_still : Asked → take (length b.holdings - found) b.holdings ≡ m.tables.book.holdings
  before_still a =
      ap (λ (n : ℕ). take (length b.holdings - n) b.holdings) a.count
      ∙ ap (λ (x : Book). take (length x.holdings - (length x.holdings - length m.tables.book.holdings)) x.holdings) a.book
      ∙ asked_before m.tables.book.size m.tables.book.holdings hs ws a.placed

  pub asked_stands : Asked → RunsInside m → s.kernel.stopped ≡ false → RunsNow (booked m b found)
  asked_stands a h r =
      let n : RunsNow m = stands_now m s h a.view_is r in
      let t : Tables = m.tables in
      let whole : before_of t ≡ t.book.holdings = whole_now m s a.view_is a.whole in
      let before : before_of t ≡ take (length b.holdings - found) b.holdings = whole ∙ sym (before_still a) in
      let size : t.book.size ≡ b.size = ap (λ (x : Book). x.size) (sym a.book) in
      record {
        stands = record {
          runs = subst (λ (x : ℕ). KernelRuns (record (kernel_by t m.journal.items m.stopped) { holdings = take (length b.holdings - found) b.holdings }) (lists_of t) x) size
              (subst (λ (x : Holdings). KernelRuns (record (kernel_by t m.journal.items m.stopped) { holdings = x }) (lists_of t) t.book.size) before n.stands.runs);
          ring = subst (λ (x : ℕ). AreSourced (images_of t) (image_at t) (take (length b.holdings - found) b.holdings) x t.ring) size
              (subst (λ (x : Holdings). AreSourced (images_of t) (image_at t) x t.book.size t.ring) before n.stands.ring);
          within = n.stands.within;
          book = sym size ∙ n.stands.book;
          found = record {
            pieces = ws;
            found = ap (λ (x : Holdings). place_all b.size x ws) (before_still a) ∙ ap (λ (x : ℕ). place_all x t.book.holdings ws) (sym size) ∙ a.placed
                ∙ ap (λ (x : Book). let r : Result Holdings ℕ = Ok x.holdings in r) (sym a.book);
          };
          records = n.stands.records;
          named = n.stands.named;
          numbers = n.stands.numbers;
        };
        holders = record { spaces = n.holders.spaces; once = n.holders.once };
        none_lost = n.none_lost;
        room = n.room;
      }

  pub asked_standing : Asked → standing_of (booked m b found) ≡ record (standing_of m) { kernel = record (standing_of m).kernel { holdings = hs } }
  asked_standing a =
      let t : Tables = m.tables in
      let whole : before_of t ≡ t.book.holdings = whole_now m s a.view_is a.whole in
      let before : take (length b.holdings - found) b.holdings ≡ before_of t = before_still a ∙ sym whole in
      let k : Kernel = record (kernel_by t m.journal.items m.stopped) { holdings = hs } in
      ap (λ (x : Book). record (standing_of m) { kernel = record (kernel_by t m.journal.items m.stopped) { holdings = x.holdings }; before = take (length b.holdings - found) b.holdings }) a.book
      ∙ ap (λ (x : Holdings). record (standing_of m) { kernel = k; before = x }) before

-- Where the entry that takes the pieces can't be made the machine has stopped, which is so too of the one before the pieces were found: there
-- the journal had room.
pub stopped_found : (m asked new : Standing) (hs : Holdings) → asked ≡ record m { kernel = record m.kernel { holdings = hs } }
    → length m.kernel.journal < m.params.journal → HasStopped asked new → HasStopped m new
stopped_found m asked new hs e room s =
    let t : HasStopped (record m { kernel = record m.kernel { holdings = hs } }) new = subst (λ (x : Standing). HasStopped x new) e s in
    record { journal = t.journal; params = t.params; images = t.images; full = λ bound. absurd (omega arith); held = t.held }

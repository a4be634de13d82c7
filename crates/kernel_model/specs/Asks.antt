-- The pieces of swap that a change of a process wants, and what is so where it wants no others, as the placement says:
-- by the slots of the spaces, and by how many spaces share the image. The flat state says the same in `change_wanted` of
-- flat_model, and `asks_agree` of flat_laws joins the two views.
use Rattle.std.specs.Prelude.{◌≡◌, ◌≢◌, ℕ, zero, suc, ◌+◌, ◌*◌, ◌==◌, Bool, true, false, cond, List, [], ◌∷◌, ◌++◌, length, drop, Option, Some, None, Result}
use Rattle.vm_facts.specs.declared.page.Page.TheVariants.{Text}
use Rattle.page_model.specs.Image.{Image}
use Rattle.page_model.specs.AoutImageImage.{image_data_pages}
use Rattle.page_model.specs.Chunks.{pieces, text_pieces}
use Rattle.page_model.specs.Owner.{Owner}
use Rattle.page_model.specs.Owner.TheVariants as owners
use Rattle.page_model.specs.Owners.{u_pieces}
use Rattle.page_model.specs.Holdings.{Holdings}
use Rattle.page_model.specs.Placing.{Wanted, wanted, place_all}
use Rattle.page_model.specs.Change.{Change}
use Rattle.page_model.specs.Change.TheVariants.{Resize, Fork, Lend, Exec, End}
use Rattle.page_model.specs.Pages.{numbered}
use Rattle.page_model.specs.Placement.{Placement, Starting, space_number, slots_of, sharers, start_placement}
use Rattle.page_model.specs.Place.{data_count, stack_count, facts_numbered}
use Rattle.vm_facts.specs.Lists.{times}
use Rattle.kernel_model.specs.Kernel.{Life, Kernel, Proc}
use Rattle.kernel_model.specs.Sound.{lives}
use Rattle.kernel_model.specs.ChangeStep.{space_of_life, life_of_proc, gave_back}

-- the pieces after those that are held, with which an owner has so many pages
abbrev pub further : Owner → ℕ → ℕ → List Wanted
further owner old new = wanted owner (drop (length (pieces (2 * old))) (pieces (2 * new)))

-- an image's text, unless a space shares it
abbrev pub text_asked : ℕ → ℕ → ℕ → List Wanted
text_asked zero image blocks = wanted (owners.Text image) (text_pieces blocks)
text_asked (suc n) image blocks = []

-- the text, the data and one stack page of a space that an image starts in
abbrev pub image_pieces : Placement → ℕ → ℕ → Image → List Wanted
image_pieces p sid image facts =
    text_asked (sharers p image) image (2 * length (slots_of p (Text image 0)))
    ++ (wanted (owners.Data sid) (pieces (2 * image_data_pages facts)) ++ wanted (owners.Stack sid) (pieces 2))

-- the pieces that a new space of an image wants; none where there is no such image
abbrev pub image_asked : Placement → ℕ → ℕ → Option Image → List Wanted
image_asked p sid image None = []
image_asked p sid image (Some facts) = image_pieces p sid image facts

-- growth and break want the further pieces of data and stack; fork those of the child's data, stack and u page; vfork
-- those of its u page; and execve those of the new space
abbrev pub change_asks : List Image → Placement → ℕ → ℕ → Change → List Wanted
change_asks images p sid next_sid (Resize data_pages stack_pages) =
    further (owners.Data sid) (data_count p sid) data_pages ++ further (owners.Stack sid) (stack_count p sid) stack_pages
change_asks images p sid next_sid (Fork child) =
    wanted (owners.Data next_sid) (pieces (2 * data_count p sid))
    ++ (wanted (owners.Stack next_sid) (pieces (2 * stack_count p sid)) ++ wanted (owners.U child) (u_pieces 2))
change_asks images p sid next_sid (Lend child) = wanted (owners.U child) (u_pieces 2)
change_asks images p sid next_sid (Exec image top) = image_asked p next_sid image (facts_numbered images image)
change_asks images p sid next_sid _ = []

-- there is a space of this number
abbrev pub HasSpace : Placement → ℕ → Type 0
HasSpace p sid = numbered space_number sid p.spaces ≢ None

-- no process has this number
abbrev pub IsUnused : List Proc → ℕ → Type 0
IsUnused ps pid = numbered (λ (q : Proc). q.pid) pid ps ≡ None

-- no two processes have one number
abbrev pub OneEach : List Proc → Type 0
OneEach [] = Unit {0}
OneEach (q ∷ qs) = IsUnused qs q.pid × OneEach qs

-- the space that grows or is copied is there, a child's number is unused, a space that comes isn't the one that goes, and
-- no two processes have one number
abbrev pub MayAsk : Placement → List Proc → ℕ → Bool → ℕ → Change → Type 0
MayAsk p ps sid borrowed next_sid (Resize data_pages stack_pages) = HasSpace p sid
MayAsk p ps sid borrowed next_sid (Fork child) = HasSpace p sid × IsUnused ps child
MayAsk p ps sid borrowed next_sid (Lend child) = IsUnused ps child
MayAsk p ps sid borrowed next_sid (Exec image top) = borrowed ≡ false → next_sid ≢ sid
MayAsk p ps sid borrowed next_sid (End status) = OneEach ps
MayAsk p ps sid borrowed next_sid _ = Unit {0}

-- the pieces that a change of a process wants
abbrev pub asked : List Image → Kernel → ℕ → Change → List Wanted
asked images k pid change = change_asks images k.place (space_of_life (life_of_proc (numbered (λ (q : Proc). q.pid) pid k.processes))) k.next_sid change

-- a process that lives and has this: its change wants no other pieces
pub record WantsBy (k : Kernel) (pid : ℕ) (life : Life) (change : Change) : Type 0 where
  pub alive : lives k.processes pid ≡ true
  pub may : MayAsk k.place k.processes (space_of_life life) (gave_back life) k.next_sid change

-- the process of this number lives, and its change, by what it has, wants no other pieces
abbrev pub WantsThese : Kernel → ℕ → Change → Type 0
WantsThese k pid change = WantsBy k pid (life_of_proc (numbered (λ (q : Proc). q.pid) pid k.processes)) change

-- The start.

-- the pieces that the first processes from a pid on want, where these images started before: text that nobody shares
-- yet, data, one page of stack, and the u page
abbrev pub start_asks : Placement → List ℕ → ℕ → List Starting → List Wanted
start_asks p earlier pid [] = []
start_asks p earlier pid (a ∷ more) =
    text_asked (times a.image earlier) a.image (2 * length (slots_of p (Text a.image 0)))
    ++ (wanted (owners.Data pid) (pieces (2 * image_data_pages a.facts))
    ++ (wanted (owners.Stack pid) (pieces 2) ++ (wanted (owners.U pid) (u_pieces 2) ++ start_asks p (a.image ∷ earlier) (pid + 1) more)))

-- the holdings once they have found their places one after another
abbrev pub first_found : ℕ → List Image → List Starting → ℕ → Result Holdings ℕ
first_found size images first frames = place_all size [] (start_asks (start_placement images first frames) [] 1 first)

-- the pieces that one first process more wants
abbrev pub begin_asks : Placement → ℕ → ℕ → Image → List Wanted
begin_asks p pid image facts = image_pieces p pid image facts ++ wanted (owners.U pid) (u_pieces 2)

-- it is one of the first processes from a pid on
abbrev pub is_started : ℕ → List Starting → ℕ → Bool
is_started pid [] n = false
is_started pid (a ∷ more) n = cond (pid == n) true (is_started (pid + 1) more n)

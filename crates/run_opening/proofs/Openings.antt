-- How opening a run ends, by how its parts end.
use Rattle.std.proofs.Common.{◌≡◌, inl, inr, ℕ, Bool, true, false, if◌then◌else◌, nat_lt, List, [], map, Option, Some, None, Result, Ok, Err, Vec, Global, refl, sym, ◌∙◌, subst}
use Rattle.io_edge.specs.Count.{Rose}
use Rattle.io_edge.specs.FileHolding.{NamedFile, bytes_at}
use Rattle.io_edge.specs.Striping.{zero_needs, one_needs}
use Rattle.aout_image.specs.Image.{loaded}
use Rattle.vm_facts.specs.declared.event.Event.{Event}
use Rattle.flat_state.specs.Flat.{NamedImage}
use Rattle.command_edge.specs.declared.answers.Unread.{Unread}
use Rattle.command_edge.specs.declared.answers.Unread.TheVariants as unreads
use Rattle.command_edge.specs.ImageWords.{image_names, first_images}
use Rattle.command_edge.specs.declared.fault.Fault.{Fault}
use Rattle.command_edge.specs.declared.fault.Fault.TheVariants as faults
use Rattle.command_edge.specs.Named.{Why, AnswersNamed}
use Rattle.command_edge.specs.Command.{Faults, NoFaults, Made}
use Rattle.command_edge.proofs.Makings.{made_where, made_nothing}
use Rattle.run_opening.specs.declared.images.OpenedImage.{OpenedImage}
use Rattle.run_opening.specs.declared.opening.Opening.{Opening}
use Rattle.run_opening.specs.Schedules.{schedule_found, HasEvents, EndsSchedule}
use Rattle.run_opening.specs.Images.{images_found, images_in, AreOpened, IsImageFault}
use Rattle.run_opening.specs.Devices.{device_fault}
use Rattle.run_opening.specs.Opening.{FoundFiles, found_told, HasAll, EndsOpening, CountsAt}
use Rattle.run_opening.proofs.Finding.{opened_headings}

-- the words and the numbers by which a run is opened
pub record Asked : Type 0 where
  pub schedule : List ℕ
  pub words : List (List ℕ)
  pub swap : ℕ
  pub zero_blocks : ℕ
  pub one_blocks : ℕ

abbrev pub Ends : Asked → FoundFiles → Faults → Result Opening Fault → Type 0
Ends a = EndsOpening a.schedule a.words a.swap a.zero_blocks a.one_blocks

abbrev pub Opens : Asked → Option (List NamedFile) → Faults → Result Opening Fault → Type 0
Opens a holds f result = Made (Ends a) (found_told a.schedule a.words) holds f result

-- the schedule was opened so
abbrev pub OpensSchedule : Asked → Option (List NamedFile) → Faults → Result (Vec Event Global) Fault → Type 0
OpensSchedule a holds f result = Made (EndsSchedule a.schedule) (λ files. schedule_found files a.schedule) holds f result

-- the schedule's fault
schedule_fault : (a : Asked) (f : Faults) (fault : Fault) (found : FoundFiles) → EndsSchedule {A = Global} a.schedule found.schedule f (Err fault)
    → Ends a found f (Err fault)
schedule_fault a f (faults.Absent name) found ends = inl ends
schedule_fault a f faults.FileFault found ends = ends
schedule_fault a f faults.NoMemory found ends = tt
schedule_fault a f (faults.BadSchedule line) found ends = ends
schedule_fault a f _ found ends = absurd ends

pub schedule_ends : (a : Asked) (holds : Option (List NamedFile)) (f : Faults) (fault : Fault) → OpensSchedule a holds f (Err fault)
    → Opens a holds f (Err fault)
schedule_ends a holds f fault made =
    made_where (λ (found : FoundFiles). EndsSchedule {A = Global} a.schedule found.schedule f (Err fault)) (Ends a) (record { schedule = made.read; images = Ok [] })
    (found_told a.schedule a.words) holds f (Err fault)
    made.ends (λ files told. subst (λ (read : Result (List ℕ) Unread). EndsSchedule {A = Global} a.schedule read f (Err fault)) (made.is_told files told) made.ends)
    (schedule_fault a f fault)

pub refused : (a : Asked) (holds : Option (List NamedFile)) (f : Faults) → Opens a holds f (Err faults.NoMemory)
refused a holds f = made_nothing (Ends a) (record { schedule = Ok []; images = Ok [] }) (found_told a.schedule a.words) holds f (Err faults.NoMemory) (λ found. tt)

-- the lines of the schedule were opened, and this is so of the images
made_opened : (a : Asked) (holds : Option (List NamedFile)) (f g : Faults) (lines : Vec Event Global) (result : Result Opening Fault)
    (Q : Result (List NamedImage) Why → Type 0) (images : Result (List NamedImage) Why)
    → OpensSchedule a holds f (Ok lines) → Q images → ((files : List NamedFile) → holds ≡ Some files → Q (images_found files (image_names a.words)))
    → ((found : FoundFiles) → HasEvents found.schedule lines.items → Q found.images → Ends a found g result) → Opens a holds g result
made_opened a holds f g lines result Q images made any told ends =
    made_where (λ (found : FoundFiles). HasEvents found.schedule lines.items × Q found.images) (Ends a) (record { schedule = made.read; images = images })
    (found_told a.schedule a.words) holds g result
    (made.ends.1, any)
    (λ files same. (subst (λ (read : Result (List ℕ) Unread). HasEvents read lines.items) (made.is_told files same) made.ends.1, told files same))
    (λ found has. ends found has.0 has.1)

-- an image's fault
pub images_end : {A : Type 0} (view : List NamedFile → A → List NamedImage) (a : Asked) (holds : Option (List NamedFile)) (f g : Faults)
    (lines : Vec Event Global) (fault : Fault)
    → OpensSchedule a holds f (Ok lines) → g.open_before ≡ f.open_before → g.page_after ≡ g.page_before
    → ((files : List NamedFile) → holds ≡ Some files → AnswersNamed (view files) (images_found files (image_names a.words)) (Err fault))
    → CountsAt fault f.open_after g.open_after
    → IsImageFault fault → Opens a holds g (Err fault)
images_end view a holds f g lines (faults.Absent name) made start page answers counts kind =
    made_opened a holds f g lines _ (λ (r : Result (List NamedImage) Why). r ≡ Err (name.now, unreads.Absent)) (Err (name.now, unreads.Absent)) made refl answers
    (λ found has is. inr ((lines.items, has), is))
images_end view a holds f g lines (faults.NotImage name reason) made start page answers counts kind =
    made_opened a holds f g lines _ (λ (r : Result (List NamedImage) Why). r ≡ Err (name.now, unreads.NotImage reason)) (Err (name.now, unreads.NotImage reason)) made refl answers
    (λ found has is. ((lines.items, has), is))
images_end view a holds f g lines faults.FileFault made start page answers counts kind =
    made_nothing (Ends a) (record { schedule = Ok []; images = Ok [] }) (found_told a.schedule a.words) holds g (Err faults.FileFault)
    (λ found. (subst (λ (n : ℕ). Rose n g.open_after) (made.ends.0.open_same ∙ sym start) counts, page))
images_end view a holds f g lines faults.NoMemory made start page answers counts kind = refused a holds g
images_end view a holds f g lines _ made start page answers counts kind = absurd kind

-- a device's fault
abbrev pub IsShort : Fault → Type 0
IsShort (faults.ShortDevice device blocks needed) = Unit {0}
IsShort _ = ⊥

is_short : (zero_short one_short : Bool) (z zn o on : ℕ) (fault : Fault)
    → Some fault ≡ (if zero_short then Some (faults.ShortDevice 0 z zn) else (if one_short then Some (faults.ShortDevice 1 o on) else None)) → IsShort fault
is_short true one_short z zn o on fault e = let same : faults.ShortDevice 0 z zn ≡ fault = cc in subst IsShort same tt
is_short false true z zn o on fault e = let same : faults.ShortDevice 1 o on ≡ fault = cc in subst IsShort same tt
is_short false false z zn o on fault e = absurd cc

short_ends : (a : Asked) (f : Faults) (found : FoundFiles) (fault : Fault) → IsShort fault → Some fault ≡ device_fault a.swap a.zero_blocks a.one_blocks
    → HasAll found → Ends a found f (Err fault)
short_ends a f found (faults.ShortDevice device blocks needed) short is has = (has, sym is)
short_ends a f found _ short is has = absurd short

short_counts : (fault : Fault) (old new : ℕ) → IsShort fault → new ≡ old → CountsAt fault old new
short_counts (faults.ShortDevice device blocks needed) old new short same = same
short_counts _ old new short same = absurd short

pub device_counts : (a : Asked) (fault : Fault) (old new : ℕ) → Some fault ≡ device_fault a.swap a.zero_blocks a.one_blocks → new ≡ old → CountsAt fault old new
device_counts a fault old new is same =
    short_counts fault old new
    (is_short (nat_lt a.zero_blocks (zero_needs a.swap)) (nat_lt a.one_blocks (one_needs a.swap)) a.zero_blocks (zero_needs a.swap) a.one_blocks (one_needs a.swap) fault is) same

pub device_ends : (a : Asked) (holds : Option (List NamedFile)) (f g : Faults) (lines : Vec Event Global) (images : Vec OpenedImage Global) (fault : Fault)
    → OpensSchedule a holds f (Ok lines)
    → ((files : List NamedFile) → holds ≡ Some files → images_found files (image_names a.words) ≡ Ok (images_in files images.items))
    → Some fault ≡ device_fault a.swap a.zero_blocks a.one_blocks → Opens a holds g (Err fault)
device_ends a holds f g lines images fault made answers is =
    let short = is_short (nat_lt a.zero_blocks (zero_needs a.swap)) (nat_lt a.one_blocks (one_needs a.swap)) a.zero_blocks (zero_needs a.swap) a.one_blocks (one_needs a.swap) fault is in
    made_opened a holds f g lines (Err fault) (λ (r : Result (List NamedImage) Why). (xs : List NamedImage) × (r ≡ Ok xs)) (Ok []) made ([], refl)
    (λ files told. (images_in files images.items, answers files told))
    (λ found has all. short_ends a g found fault short is ((lines.items, has), all))

-- all was opened
record AreNamed (opened : List OpenedImage) (r : Result (List NamedImage) Why) : Type 0 where
  pub images : List NamedImage
  pub are : r ≡ Ok images
  pub opened_are : AreOpened images opened

pub opening_begins : (a : Asked) (holds : Option (List NamedFile)) (f g : Faults) (opening : Opening) → OpensSchedule a holds f (Ok opening.lines)
    → ((files : List NamedFile) → holds ≡ Some files → images_found files (image_names a.words) ≡ Ok (images_in files opening.images.items))
    → opening.first.items ≡ first_images (image_names a.words) a.words → None ≡ device_fault a.swap a.zero_blocks a.one_blocks → NoFaults g
    → Opens a holds g (Ok opening)
opening_begins a holds f g opening made answers first devices none =
    made_opened a holds f g opening.lines (Ok opening) (AreNamed opening.images.items)
    (Ok (map (λ (image : OpenedImage). record { name = image.name.now; image = loaded image.facts [] }) opening.images.items)) made
    (record { images = _; are = refl; opened_are = opened_headings (λ image. []) opening.images.items })
    (λ files told. record { images = images_in files opening.images.items; are = answers files told; opened_are = opened_headings (λ image. bytes_at files image.file) opening.images.items })
    (λ found has named. (none, record { lines = has; images = named.images; are = named.are; opened = named.opened_are; first = first; devices = sym devices }))

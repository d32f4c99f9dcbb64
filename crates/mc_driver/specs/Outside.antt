-- The outside at a moment, as far as it tells of itself, and what a part of a command does to it.
use Rattle.std.specs.Prelude.{◌≡◌, ◌≢◌, ◌≤◌, ◌<◌, ◌-◌, ◌^◌, ◌%◌, ℕ, ◌+◌, ◌⊎◌, List, ◌++◌, length, Bool, Option, Some, None, option_map}
use Rattle.std.specs.List.{flat_map}
use Rattle.pdp_dev.specs.declared.entry.Entry.{Entry}
use Rattle.mc_report.specs.Report.{line}
use Rattle.mc_shelf.specs.declared.ask.Ask.{Ask}
use Rattle.mc_shelf.specs.declared.ask.Ask.TheVariants.{Load, Save}
use Rattle.mc_shelf.specs.declared.shelf.PutFault.{PutFault}
use Rattle.mc_shelf.specs.declared.shelf.PutFault.TheVariants.{Failed, Memory}
use Rattle.mc_shelf.specs.Outside.{View, Files, content, Told, Rose, placed, appended, IsPart, asks, HasRoom}

-- What a load may read

-- A file of this name may have these bytes, by what is known of the files: where nothing is known, any.
abbrev pub Reads : Option Files → List ℕ → List ℕ → Type 0
Reads known name bytes = Told known (λ files. bytes ≡ content files name)

-- Printing in pieces

-- A first part of these bytes was printed: whole pieces of 4,096 bytes, of which there may be none.
pub record IsInPieces (printed : Option (List ℕ)) (bytes : List ℕ) (now : Option (List ℕ)) : Type 0 where
  pub front : List ℕ
  pub rest : List ℕ
  pub parts : bytes ≡ front ++ rest
  pub appends : now ≡ appended printed front
  pub whole : length front % 4096 ≡ 0

-- A first part of these bytes was printed: whole pieces of 4,096 bytes, and of the next piece a first part, which may be none.
pub record IsPieces (printed : Option (List ℕ)) (bytes : List ℕ) (now : Option (List ℕ)) : Type 0 where
  pub front : List ℕ
  pub piece : List ℕ
  pub rest : List ℕ
  pub parts : bytes ≡ front ++ (piece ++ rest)
  pub appends : now ≡ appended printed (front ++ piece)
  pub whole : length front % 4096 ≡ 0
  pub within : length piece ≤ 4096

-- the lines of entries; events and grants have lines where they are asked for
abbrev pub lines_of : Bool → List Entry → List ℕ
lines_of journal entries = flat_map (λ entry. line entry journal) entries

-- Behind held bytes come others: whole pieces of all of them were printed, and the rest is held. Nothing else has changed.
pub record Streams (v : View) (held bytes : List ℕ) (w : View) (now : List ℕ) : Type 0 where
  pub front : List ℕ
  pub parts : held ++ bytes ≡ front ++ now
  pub printed : w.printed ≡ appended v.printed front
  pub whole : length front % 4096 ≡ 0
  pub room : (n : ℕ) → HasRoom v.spare (length (held ++ bytes) + n) → HasRoom w.spare (length now + n)
  pub files : w.files ≡ v.files
  pub asked : w.asked ≡ v.asked
  pub faults : w.faults ≡ v.faults
  pub longs : w.longs ≡ v.longs

-- Bytes were printed, all of them. Nothing else has changed, but what room is told.
pub record Prints (v : View) (bytes : List ℕ) (w : View) : Type 0 where
  pub printed : w.printed ≡ appended v.printed bytes
  pub files : w.files ≡ v.files
  pub asked : w.asked ≡ v.asked
  pub faults : w.faults ≡ v.faults
  pub longs : w.longs ≡ v.longs

-- A print of them was refused: a part of all was printed, and for want of memory one of whole pieces.
pub record Breaks (v : View) (held bytes : List ℕ) (fault : PutFault) (w : View) : Type 0 where
  pub part : IsPart v.printed (held ++ bytes) w.printed
  pub failed : fault ≡ Failed → Rose v.faults w.faults
  pub memory : fault ≡ Memory → HasRoom v.spare (length (held ++ bytes)) → ⊥
  pub pieces : fault ≡ Memory → IsInPieces v.printed (held ++ bytes) w.printed
  pub later : v.faults ≤ w.faults
  pub same : fault ≢ Failed → w.faults ≡ v.faults
  pub files : w.files ≡ v.files
  pub asked : w.asked ≡ v.asked
  pub longs : w.longs ≡ v.longs

-- Loads

-- A file was loaded: it has these bytes, no more than the most that are allowed.
pub record Loaded (v : View) (name : List ℕ) (most : ℕ) (bytes : List ℕ) (w : View) : Type 0 where
  pub told : Told v.files (λ files. bytes ≡ content files name)
  pub short : length bytes ≤ most
  pub files : w.files ≡ v.files
  pub printed : w.printed ≡ v.printed
  pub asked : w.asked ≡ asks v.asked (Load name)
  pub room : (n : ℕ) → HasRoom v.spare n → HasRoom w.spare n
  pub faults : w.faults ≡ v.faults
  pub longs : w.longs ≡ v.longs

-- A file is too long.
pub record IsLong (v : View) (name : List ℕ) (most : ℕ) (w : View) : Type 0 where
  pub exactly : (Rose v.faults w.faults → ⊥) → Told v.files (λ files. most < length (content files name))
  pub rose : Rose v.longs w.longs
  pub files : w.files ≡ v.files
  pub printed : w.printed ≡ v.printed
  pub asked : w.asked ≡ asks v.asked (Load name)
  pub faults : w.faults ≡ v.faults

-- A line was said with a status, or could not be printed.
pub record Says (v : View) (line : List ℕ) (status result : ℕ) (w : View) : Type 0 where
  pub said : result ≢ 11 → result ≢ 12 → (result ≡ status) × (w.printed ≡ appended v.printed line)
  pub failed : result ≡ 11 → Rose v.faults w.faults × IsPart v.printed line w.printed
  pub memory : result ≡ 12 → w.printed ≡ v.printed
  pub tight : result ≡ 12 → HasRoom v.spare (length line) → ⊥
  pub later : v.faults ≤ w.faults
  pub same : result ≢ 11 → w.faults ≡ v.faults
  pub longs : w.longs ≡ v.longs
  pub asked : w.asked ≡ v.asked
  pub files : w.files ≡ v.files

-- A load failed.
pub record LoadFails (v : View) (name : List ℕ) (w : View) : Type 0 where
  pub rose : Rose v.faults w.faults
  pub files : w.files ≡ v.files
  pub printed : w.printed ≡ v.printed
  pub asked : w.asked ≡ asks v.asked (Load name)

-- Nothing has changed, but what room is told.
pub record IsSame (v w : View) : Type 0 where
  pub files : w.files ≡ v.files
  pub printed : w.printed ≡ v.printed
  pub asked : w.asked ≡ v.asked
  pub faults : w.faults ≡ v.faults

-- A file was not loaded: the load failed, there was no memory, or the file is too long, which is said.
pub data Unloaded (v : View) (name : List ℕ) (most : ℕ) (line : List ℕ) (result : ℕ) (w : View) : Type 0 where
  fails : result ≡ 11 → LoadFails v name w → Unloaded v name most line result w
  no_memory : result ≡ 12 → IsSame v w → Unloaded v name most line result w
  is_long : (u : View) → IsLong v name most u → Says u line 14 result w → Unloaded v name most line result w

-- Loads and saves in their order

-- what was asked, and then these
abbrev pub asks_all : Option (List Ask) → List Ask → Option (List Ask)
asks_all asked more = option_map (λ before. before ++ more) asked

-- All of these begin with some.
pub record BeginsWith (all some : List Ask) : Type 0 where
  pub rest : List Ask
  pub parts : all ≡ some ++ rest

-- Some were asked, in their order: a first part of what the command has. Where files are told, they are a first part too of
-- what belongs to each answer with these files. So whatever fails, nothing is asked behind the place of that answer.
pub record AsksPart (v : View) (wanted : List Ask) (BelongToAnswer : Files → List Ask → Type 0) (w : View) : Type 0 where
  pub some : List Ask
  pub asked : w.asked ≡ asks_all v.asked some
  pub in_order : BeginsWith wanted some
  pub none_behind : Told v.files (λ files. (all : List Ask) → BelongToAnswer files all → BeginsWith all some)

-- What is known when an answer is judged

-- A shelf's files are taken as unknown, or as it tells them.
abbrev pub MayBe : View → Option Files → Type 0
MayBe v known = (known ≡ None) ⊎ (known ≡ v.files)

-- They can be taken as told but at two answers, where the count of failures can't show that the outside did not fail.
abbrev pub IsKnown : View → ℕ → View → Option Files → Type 0
IsKnown v result w known =
    (known ≡ None) ⊎ ((known ≡ v.files) × (result ≡ 14 → Rose v.faults w.faults → ⊥) × (result ≡ 11 → v.faults < 2 ^ 64 - 1))

-- Whole commands

-- What is asked belongs to an answer with these files.
abbrev pub AskedFor : (Option Files → List Ask → ℕ → List ℕ → Type 0) → Files → List Ask → Type 0
AskedFor Answers files asked = (status : ℕ) × (text : List ℕ) × Answers (Some files) asked status text

-- A command came to an answer: all that belongs to it was asked, and its text was printed.
pub record IsAnswered (v : View) (known : Option Files) (Answers : Option Files → List Ask → ℕ → List ℕ → Type 0) (result : ℕ) (w : View) : Type 0 where
  pub some : List Ask
  pub text : List ℕ
  pub answers : Answers known some result text
  pub asked : w.asked ≡ asks_all v.asked some
  pub printed : w.printed ≡ appended v.printed text

-- A command was cut off on its way to an answer: all that belongs to it was asked, and a first part of its text was printed,
-- in pieces. For want of memory these are whole, and room for the whole text was not told.
pub record IsCut (v : View) (known : Option Files) (Answers : Option Files → List Ask → ℕ → List ℕ → Type 0) (result : ℕ) (w : View) : Type 0 where
  pub some : List Ask
  pub status : ℕ
  pub text : List ℕ
  pub answers : Answers known some status text
  pub asked : w.asked ≡ asks_all v.asked some
  pub part : IsPieces v.printed text w.printed
  pub tight : result ≡ 12 → HasRoom v.spare (length text) → ⊥
  pub pieces : result ≡ 12 → IsInPieces v.printed text w.printed

-- What a command answers, asks and prints: a status, some loads and a text that belong together, as `Answers` says, with the
-- files as they are told, or else with some bytes that the loads gave. 11 and 12 come where the outside fails and where memory
-- is wanted, and then a first part of such a text was printed, or nothing.
pub record Ends (v : View) (wanted : List Ask) (Answers : Option Files → List Ask → ℕ → List ℕ → Type 0) (result : ℕ) (w : View) : Type 0 where
  pub answer : (known : Option Files) → IsKnown v result w known → result ≢ 11 → result ≢ 12 → IsAnswered v known Answers result w
  pub cut : (known : Option Files) → IsKnown v result w known → (result ≡ 11) ⊎ (result ≡ 12) → (w.printed ≡ v.printed) ⊎ IsCut v known Answers result w
  pub failed : result ≡ 11 → Rose v.faults w.faults
  pub grew : v.faults < w.faults → result ≡ 11
  pub long : result ≡ 14 → Rose v.longs w.longs
  pub asked : AsksPart v wanted (AskedFor Answers) w
  pub files : w.files ≡ v.files

-- Commands that may save a file

-- A file was saved: it has these bytes, and the others are as before.
pub record IsSavedTo (v : View) (name bytes : List ℕ) (w : View) : Type 0 where
  pub files : w.files ≡ placed v.files name (Some bytes)
  pub printed : w.printed ≡ v.printed
  pub asked : w.asked ≡ asks v.asked (Save name)
  pub room : (n : ℕ) → HasRoom v.spare n → HasRoom w.spare n
  pub faults : w.faults ≡ v.faults
  pub longs : w.longs ≡ v.longs

-- Every name but the target's, where there is one, keeps its file.
abbrev pub KeepsOthers : Option (List ℕ) → Option Files → Option Files → Type 0
KeepsOthers None before after = after ≡ before
KeepsOthers (Some name) before after = (after ≡ before) ⊎ ((held : Option (List ℕ)) × (after ≡ placed before name held))

-- Answers of such a command speak of what is known of the files for loads, and of the files as told before and after it.
abbrev pub SavingAnswers : Type 1
SavingAnswers = Option Files → Option Files → Option Files → List Ask → ℕ → List ℕ → Type 0

-- What is asked belongs to an answer with these files before it.
abbrev pub AskedForSaving : SavingAnswers → Files → List Ask → Type 0
AskedForSaving Answers files asked = (after : Option Files) × (status : ℕ) × (text : List ℕ) × Answers (Some files) (Some files) after asked status text

-- A command came to an answer: all that belongs to it was asked, its text was printed, and the files are those behind it.
pub record IsAnsweredSaving (v : View) (known : Option Files) (Answers : SavingAnswers) (result : ℕ) (w : View) : Type 0 where
  pub some : List Ask
  pub text : List ℕ
  pub answers : Answers known v.files w.files some result text
  pub asked : w.asked ≡ asks_all v.asked some
  pub printed : w.printed ≡ appended v.printed text

-- A command was cut off on its way to an answer: all that belongs to it was asked, a first part of its text was printed in
-- pieces, and the files are those behind the answer. Or the save failed by which it would have been done: then nothing was
-- printed, and the others keep their files. For want of memory the pieces are whole, and room for the whole text was not told.
pub record IsCutOff (v : View) (known : Option Files) (target : Option (List ℕ)) (Answers : SavingAnswers) (result : ℕ) (w : View) : Type 0 where
  pub after : Option Files
  pub some : List Ask
  pub status : ℕ
  pub text : List ℕ
  pub answers : Answers known v.files after some status text
  pub asked : w.asked ≡ asks_all v.asked some
  pub part : IsPieces v.printed text w.printed
  pub files : (w.files ≡ after) ⊎ ((status ≡ 0) × (w.printed ≡ v.printed) × KeepsOthers target v.files w.files)
  pub tight : result ≡ 12 → HasRoom v.spare (length text) → ⊥
  pub pieces : result ≡ 12 → IsInPieces v.printed text w.printed

-- What a command answers, asks, prints and saves, as in `Ends`. No file but the target's changes; and where the command is cut
-- off before it comes to an answer, that one does not change either.
pub record EndsSaving (v : View) (wanted : List Ask) (target : Option (List ℕ)) (Answers : SavingAnswers) (result : ℕ) (w : View) : Type 0 where
  pub answer : (known : Option Files) → IsKnown v result w known → result ≢ 11 → result ≢ 12 → IsAnsweredSaving v known Answers result w
  pub cut : (known : Option Files) → IsKnown v result w known → (result ≡ 11) ⊎ (result ≡ 12) → ((w.printed ≡ v.printed) × (w.files ≡ v.files)) ⊎ IsCutOff v known target Answers result w
  pub failed : result ≡ 11 → Rose v.faults w.faults
  pub grew : v.faults < w.faults → result ≡ 11
  pub long : result ≡ 14 → Rose v.longs w.longs
  pub asked : AsksPart v wanted (AskedForSaving Answers) w
  pub files : KeepsOthers target v.files w.files

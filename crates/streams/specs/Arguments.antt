-- What is known of an argument, and what it asks for. Assumes nothing.
use Rattle.std.specs.Prelude.{ℕ, Bool, true, false, ◌||◌, ◌≡◌, List, [], ◌∷◌, eqb, Result, Ok, Err}
use Rattle.io.specs.Counts.{IsPrefixLen}
use Rattle.std.specs.declared.env.FillError.{FillError}
use Rattle.basics.specs.Bytes.{bytes_of, same_bytes}
use Rattle.streams.specs.declared.arguments.Request.{Request}
use Rattle.streams.specs.declared.arguments.Request.TheVariants.{Help, File, Nothing, Many}
use Rattle.streams.specs.declared.console.Told.{Told}

-- a given argument stands at the start of the buffer
abbrev pub Held : Result ℕ FillError → List ℕ → Type 0
Held (Ok n) xs = IsPrefixLen n xs
Held (Err e) xs = Unit

-- it asks for help; it is an option, and no file's name
abbrev pub is_help : List ℕ → Bool
is_help l = same_bytes l (bytes_of "--help") || same_bytes l (bytes_of "-h")

abbrev pub is_option : List ℕ → Bool
is_option [] = false
is_option (b ∷ l) = eqb b 45

-- what an argument asks for: help is the only option, and whatever is no option is a file's name
abbrev pub AsksFor : List ℕ → Result Request Told → Type 0
AsksFor l (Ok Help) = is_help l ≡ true
AsksFor l (Ok (File path)) = (path.now ≡ l) × (is_help l ≡ false) × (is_option l ≡ false)
AsksFor l (Ok Nothing) = ⊥
AsksFor l (Ok Many) = ⊥
AsksFor l (Err e) = (is_help l ≡ false) × (is_option l ≡ true)

-- no option is taken for a file's name
abbrev pub NamesFile : Result Request Told → Type 0
NamesFile (Ok Help) = Unit
NamesFile (Ok (File path)) = (is_help path.now ≡ false) × (is_option path.now ≡ false)
NamesFile (Ok Nothing) = Unit
NamesFile (Ok Many) = Unit
NamesFile (Err e) = Unit

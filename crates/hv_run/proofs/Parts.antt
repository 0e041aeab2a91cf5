-- The first bytes of a text, and of two texts, one after the other.
use Rattle.std.proofs.Common.{◌≡◌, ℕ, ◌+◌, List, [], ◌++◌, length, take, drop, sym, ap, ◌∙◌, subst, append_assoc, take-append-drop, Option}
use Rattle.std.specs.Io.KnownBytes.{Appends, Keeps}
use Rattle.std.proofs.KnownBytes.{Appends-kept, Appends-nil, Appends-trans}
use Rattle.std.proofs.Math.Seq.{take-append-add, take-append_seam, take-length}
use Rattle.hv_run.specs.Written.{HasPart}
use Rattle.hv_text.specs.Fault.{IsCut}
use Rattle.hv_text.specs.declared.fault.PrintFault.{PrintFault}
use Rattle.hv_text.specs.declared.fault.PrintFault.TheVariants.{Memory, Write}

-- nothing went out, or all, or what a failed write left
pub part_none : (text : List ℕ) (a b : Option (List ℕ)) → Keeps a b → HasPart text a b
part_none text a b same = record { count = 0; told = Appends-kept a a b [] (Appends-nil a) same }

pub part_whole : (text : List ℕ) (a b : Option (List ℕ)) → Appends a b text → HasPart text a b
part_whole text a b told = record { count = length text; told = rw take-length told }

pub part_cut : (text : List ℕ) (a b : Option (List ℕ)) (fault : PrintFault) → IsCut a b text fault → HasPart text a b
part_cut text a b (Write written) cut = record { count = written; told = cut.0 }
part_cut text a b Memory same = part_none text a b same

pub part_kept : (text : List ℕ) (a b c : Option (List ℕ)) → HasPart text a b → Keeps b c → HasPart text a c
part_kept text a b c part same = record { count = part.count; told = Appends-kept a b c (take part.count text) part.told same }

-- the bytes that are taken of a text are those at the front of a longer one
at_front : (n : ℕ) (first second : List ℕ) → take (length (take n first)) (first ++ second) ≡ take n first
at_front n first second =
    let front = take n first in
    ap (λ (l : List ℕ). take (length front) (l ++ second)) (sym (take-append-drop n first)) ∙ ap (take (length front)) (append_assoc front (drop n first) second)
    ∙ take-append_seam front (drop n first ++ second)

-- a part of the first of two texts, and of the second after all of the first
pub part_before : (first second : List ℕ) (a b : Option (List ℕ)) → HasPart first a b → HasPart (first ++ second) a b
part_before first second a b part = record { count = length (take part.count first); told = subst (Appends a b) (sym (at_front part.count first second)) part.told }

pub part_after : (first second : List ℕ) (a b c : Option (List ℕ)) → Appends a b first → HasPart second b c → HasPart (first ++ second) a c
part_after first second a b c told part = record { count = length first + part.count; told = rw take-append-add (Appends-trans a b c first (take part.count second) told part.told) }

-- A line as it comes in.
use Rattle.std.proofs.Common.{◌≡◌, ◌≢◌, ◌==◌, ◌≤◌, ◌<◌, ◌&&◌, not, is_some, ℕ, suc, List, [], ◌∷◌, ◌++◌, length, refl, sym, ap, ◌∙◌, subst, arith, append-nil, length-append, Bool, true, false}
use Rattle.std.proofs.Common.{Option, Some, None}
use Rattle.std.specs.Io.KnownBytes.{Consumes, IsAtEnd}
use Rattle.std.proofs.KnownBytes.{Consumes-nil, Consumes-trans}
use Rattle.std.proofs.lemmas.Bool.Decides.{nat_tests}
use Rattle.std.proofs.lemmas.List.Elements.{All-nil, All-push}
use Rattle.hv_script.specs.declared.fault.FaultKind.{FaultKind}
use Rattle.hv_script.specs.declared.fault.FaultKind.TheVariants.{Long, Memory}
use Rattle.hv_script.specs.declared.script.TheConstants.{MOST_BYTES}
use Rattle.hv_serve.proofs.Lines.{IsOne}
use Rattle.hv_serve.specs.Input.{AreKept, HasEnded, HasLine}
use Rattle.hv_serve.specs.declared.input.LineEnd.{LineEnd}

-- these bytes of a line came so far, and were kept
pub record IsReading (kept : List ℕ) (lost : Option FaultKind) (old new : Option (List ℕ)) : Type 0 where
  pub bytes : List ℕ
  pub one : IsOne bytes
  pub kept_are : AreKept bytes kept lost
  pub taken : Consumes old new bytes

pub reading_none : (old : Option (List ℕ)) (kept : List ℕ) → kept ≡ [] → IsReading kept None old old
reading_none old kept none = record {
  bytes = [];
  one = All-nil (λ byte. byte ≢ 10);
  kept_are = (none, omega arith);
  taken = Consumes-nil old;
}

-- a byte more
pub reading_more : (kept next : List ℕ) (lost now : Option FaultKind) (old mid new : Option (List ℕ)) (byte : ℕ) (is : IsReading kept lost old mid) → byte ≢ 10 → Consumes mid new (byte ∷ [])
    → ((bytes : List ℕ) → AreKept bytes kept lost → AreKept (bytes ++ byte ∷ []) next now) → IsReading next now old new
reading_more kept next lost now old mid new byte is apart came keeps = record {
  bytes = is.bytes ++ byte ∷ [];
  one = All-push (λ byte. byte ≢ 10) is.bytes byte is.one apart;
  kept_are = keeps is.bytes is.kept_are;
  taken = Consumes-trans old mid new is.bytes (byte ∷ []) is.taken came;
}

-- the line feed, and the input's end
pub line_fed : (kept : List ℕ) (end : LineEnd) (old mid new : Option (List ℕ)) → end.last ≡ false → IsReading kept end.lost old mid → Consumes mid new (10 ∷ []) → HasLine kept end old new
line_fed kept end old mid new last is came = record {
  bytes = is.bytes;
  one = is.one;
  kept_are = is.kept_are;
  ended = subst (λ (b : Bool). HasEnded b is.bytes old new) (sym last) (Consumes-trans old mid new is.bytes (10 ∷ []) is.taken came);
}

pub line_ended : (kept : List ℕ) (end : LineEnd) (old mid new : Option (List ℕ)) → end.last ≡ true → IsReading kept end.lost old mid → Consumes mid new [] → IsAtEnd new → HasLine kept end old new
line_ended kept end old mid new last is came at = record {
  bytes = is.bytes;
  one = is.one;
  kept_are = is.kept_are;
  ended = subst (λ (b : Bool). HasEnded b is.bytes old new) (sym last)
      (subst (Consumes old new) (append-nil is.bytes) (Consumes-trans old mid new is.bytes [] is.taken came), at);
}

-- a byte of a line was kept, or lost
pub keeps_byte : (bytes kept next : List ℕ) (byte : ℕ) → next ≡ kept ++ byte ∷ [] → length kept < MOST_BYTES → AreKept bytes kept None → AreKept (bytes ++ byte ∷ []) next None
keeps_byte bytes kept next byte pushed room are =
    (pushed ∙ ap (λ (l : List ℕ). l ++ byte ∷ []) are.0, omega (arith, ap length are.0, length-append bytes (byte ∷ []), room))

not_none : (bytes : List ℕ) (byte : ℕ) → bytes ++ byte ∷ [] ≢ []
not_none bytes byte = λ none. let count = ap length none in omega (arith, length-append bytes (byte ∷ []))

pub loses_byte : (bytes kept next : List ℕ) (byte : ℕ) → MOST_BYTES ≤ length kept → AreKept bytes kept None → AreKept (bytes ++ byte ∷ []) next (Some Long)
loses_byte bytes kept next byte full are = (not_none bytes byte, λ _. (refl, omega (arith, ap length are.0, length-append bytes (byte ∷ []), full)))

pub lacks_memory : (bytes next : List ℕ) (byte : ℕ) → AreKept (bytes ++ byte ∷ []) next (Some Memory)
lacks_memory bytes next byte = (not_none bytes byte, λ apart. absurd (apart refl))

pub still_lost : (bytes kept next : List ℕ) (byte : ℕ) (kind : FaultKind) → AreKept bytes kept (Some kind) → AreKept (bytes ++ byte ∷ []) next (Some kind)
still_lost bytes kept next byte kind are = (not_none bytes byte, λ apart. let is = are.1 apart in (is.0, (let more = is.1 in omega (arith, length-append bytes (byte ∷ [])))))

-- the last line has no bytes
pub is_none : (bytes line : List ℕ) (lost : Option FaultKind) → AreKept bytes line lost → (not (is_some lost) && (length line == 0)) ≡ (length bytes == 0)
is_none bytes line None are = ap (λ (l : List ℕ). length l == 0) are.0
is_none [] line (Some kind) are = absurd (are.0 refl)
is_none (byte ∷ bytes) line (Some kind) are = some (length bytes)
  where
    some : (n : ℕ) → false ≡ (suc n == 0)
    some n = grind (arith, nat_tests)

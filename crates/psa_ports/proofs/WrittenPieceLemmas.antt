-- What is written in pieces, one after another, is written whole.
use Rattle.std.proofs.Common.{◌≡◌, ℕ, ◌+◌, List, ◌++◌, Option, take, length, min, subst, sym, arith}
use Rattle.std.specs.Io.KnownBytes.{Appends}
use Rattle.std.proofs.KnownBytes.{Appends-nil, Appends-trans}
use Rattle.std.proofs.Math.Seq.{take-append-add}
use Rattle.std.proofs.lemmas.Grind.{common_steps}
use Rattle.psa_ports.specs.Sink.{AppendsPrefix}

-- nothing was written
pub prefix-nil : (old : Option (List ℕ)) (bytes : List ℕ) → AppendsPrefix old old bytes
prefix-nil old bytes = record { count = 0; appended = Appends-nil old }

-- all was written
pub prefix-whole : (old new : Option (List ℕ)) (bytes : List ℕ)
    → Appends old new bytes → AppendsPrefix old new bytes
prefix-whole old new bytes whole =
    let all : take (length bytes) bytes ≡ bytes = grind (arith, common_steps) in
    record { count = length bytes; appended = subst (Appends old new) (sym all) whole }

-- a prefix of the bytes is one of more bytes
pub prefix-more : (old new : Option (List ℕ)) (bytes more : List ℕ)
    → AppendsPrefix old new bytes → AppendsPrefix old new (bytes ++ more)
prefix-more old new bytes more part =
    let same : take (min part.count (length bytes)) (bytes ++ more) ≡ take part.count bytes = grind (arith, common_steps) in
    record { count = min part.count (length bytes); appended = subst (Appends old new) (sym same) part.appended }

-- all of the first bytes, and then a prefix of those after them
pub prefix-after : (old mid new : Option (List ℕ)) (bytes more : List ℕ)
    → Appends old mid bytes → AppendsPrefix mid new more → AppendsPrefix old new (bytes ++ more)
prefix-after old mid new bytes more whole part = record {
  count = length bytes + part.count;
  appended = subst (Appends old new) (sym (take-append-add bytes more part.count)) (Appends-trans old mid new bytes (take part.count more) whole part.appended);
}

-- all of them, for `using`
pub ruleset prefixes = (prefix-nil, prefix-whole, prefix-more, prefix-after)

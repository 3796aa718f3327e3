-- Which states of a theory are earlier than others.
use Rattle.std.proofs.Common.{◌≡◌, [], ◌∷◌, ◌++◌, sym, ◌∙◌, ap, append_assoc}
use Rattle.hol_model.specs.Logic.Theory.{Theory, Entry, IsEarlier}

-- a theory is no later than itself
pub earlier-same : (earlier now : Theory) → earlier ≡ now → IsEarlier earlier now
earlier-same earlier now same = record { added = []; is_added = sym same }

-- one more entry
pub earlier-more : (entry : Entry) (earlier now : Theory) → now ≡ entry ∷ earlier → IsEarlier earlier now
earlier-more entry earlier now is = record { added = entry ∷ []; is_added = is }

pub earlier-twice : (first second third : Theory) → IsEarlier first second → IsEarlier second third → IsEarlier first third
earlier-twice first second third one two = record {
  added = two.added ++ one.added;
  is_added = two.is_added ∙ ap (λ l. two.added ++ l) one.is_added ∙ sym (append_assoc two.added one.added first);
}

pub ruleset earlier = (earlier-same, earlier-more)

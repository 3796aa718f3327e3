-- The body under a new name has the image that filling makes.
use Rattle.std.proofs.Common.{◌≡◌, ℕ, List, [], ◌∷◌, Bool, true, false, refl, sym, ◌∙◌, ap, subst, if◌then◌else◌}
use Rattle.std.specs.Str.{bytes_eq}
use Rattle.std.proofs.lemmas.Slice.Eq.{bytes_eq-Decides}
use Rattle.hol_model.specs.Terms.HolType.{HolType}
use Rattle.hol_model.specs.Terms.NamedTerm.{NamedTerm, variable, same_variable}
use Rattle.hol_model.specs.Terms.Nameless.{Nameless, free, const, bound, app, lam, image, image_under, HasType}
use Rattle.hol_model.specs.Terms.Substitution.{close, fill, put, only}
use Rattle.hol_model.specs.Logic.NamedLogic.{Abstracted}
use Rattle.hol_model.specs.Derived.DerivedRules.{named, up_to_names, conclusion_image, body_with}
use Rattle.hol_model.proofs.Terms.Images.{image_under-type, image_under-closed, image-typed}
use Rattle.hol_model.proofs.Terms.Filling.{fill_at-close_at}
use Rattle.hol_model.proofs.Tests.{same_name, same_variable-type}
use Rattle.hol_model.specs.Rewrites.RenamedBody.{renamed_body}

-- a variable put in its own place
put-itself : (name : List ℕ) (ty : HolType) (t : Nameless) → put (only name ty (free name ty)) t ≡ t
put-itself name ty (free other s) = go (same_variable name ty other s) refl
  where
    go : (test : Bool) → same_variable name ty other s ≡ test → (if test then free name ty else free other s) ≡ free other s
    go true passed = λ i. free (same_name name other ty s passed i) (same_variable-type name other ty s passed i)
    go false failed = refl
put-itself name ty (const other s) = refl
put-itself name ty (bound index) = refl
put-itself name ty (app f x) = λ i. app (put-itself name ty f i) (put-itself name ty x i)
put-itself name ty (lam s body) = ap (λ b. lam s b) (put-itself name ty body)

-- a variable that is closed and filled in again
filled-again : (name : List ℕ) (ty result : HolType) (body : NamedTerm) → HasType (ty ∷ []) (close name ty (image body)) result
    → fill (free name ty) (close name ty (image body)) ≡ image body
filled-again name ty result body typed =
    let under : HasType (ty ∷ []) (image_under ((name, ty) ∷ []) body) result = subst (λ (t : Nameless). HasType (ty ∷ []) t result) (sym (image_under-closed [] name ty body)) typed in
    let own : HasType [] (image body) result = image-typed body result (image_under-type ((name, ty) ∷ []) body result under) in
    fill_at-close_at name ty (free name ty) (image body) [] result own ∙ put-itself name ty (image body)

pub renamed_body-image : (at : Abstracted) (name : List ℕ) (result : HolType) → HasType (at.ty ∷ []) (close at.name at.ty (image at.body)) result
    → conclusion_image (renamed_body at name) ≡ body_with at (variable name at.ty)
renamed_body-image at name result typed = go (bytes_eq name at.name) refl
  where
    go : (test : Bool) → bytes_eq name at.name ≡ test
        → conclusion_image (if test then named at.body else up_to_names (body_with at (variable name at.ty))) ≡ body_with at (variable name at.ty)
    go true same =
        subst (λ (other : List ℕ). image at.body ≡ fill (free other at.ty) (close at.name at.ty (image at.body))) (sym ((bytes_eq-Decides name at.name).0 same))
        (sym (filled-again at.name at.ty result at.body typed))
    go false differs = refl

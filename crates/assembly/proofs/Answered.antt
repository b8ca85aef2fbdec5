-- From what the parts of assembling answer to what it answers.
use Rattle.std.proofs.Common.{◌≡◌, ℕ, ◌<◌, ◌==◌, Bool, true, false, List, length, get_or, is_some, Some, None, Option, Result, Ok, MatchOption, sym, ap, ◌∙◌, subst, inl, inr, zero-le, arith}
use Rattle.std.specs.Option.{ok_or}
use Rattle.std.proofs.lemmas.Bool.Decides.{leb_tells, nat_tests}
use Rattle.reader.specs.Answers as reader
use Rattle.reader.specs.declared.Element.{Element}
use Rattle.reader.specs.declared.Listing.{Listing}
use Rattle.weights.specs.Limits.{Scaled}
use Rattle.weights.specs.declared.scales.Scale.{Scale}
use Rattle.tree.specs.Models.{Model}
use Rattle.net.specs.Reductions.{Edge, EndsDown}
use Rattle.net.specs.declared.wires.Wire.{Wire}
use Rattle.net.proofs.Unique.{one_answer}
use Rattle.assembly.specs.Branches.{way_for, Joins, Refused}
use Rattle.assembly.specs.Beginnings.{Begins, Earless, EarIs}
use Rattle.assembly.specs.Inner.{GrownFrom, Ungrown}
use Rattle.assembly.specs.Assemblies.{port_of, Begun, Refuses, OneEnd}
use Rattle.assembly.specs.declared.faults.AssemblyFault.{AssemblyFault}
use Rattle.assembly.specs.declared.faults.AssemblyFault.TheVariants.{Reading, OutOfRange, BadWeight, Irreducible, TooLarge, NoEar}
use Rattle.assembly.proofs.OneTree.{one_tree, not_both}
use Rattle.assembly.proofs.Begun.{blank}
use Rattle.assembly.proofs.Passed.{was_some}

pub one_end : OneEnd
one_end port bs = one_answer Joins Refused port (λ c a b m n. one_tree (way_for c) a b m n) (λ c a b m. not_both (way_for c) a b m) bs

-- what is known once the elements of a listing that was read are to become branches
pub record Ready (t name : List ℕ) (rate unit : ℕ) (d : Listing) (ear : Option ℕ) (s : Scale) (es : List Element) (port : Wire) : Type 0 where
  pub read : reader.Reads t d
  pub hertz : s.rate ≡ rate
  pub siemens : s.unit ≡ unit
  pub all : es ≡ d.elements
  pub ends : port ≡ port_of d
  pub eared : EarIs t es name ear

-- the scale is what was made of the rate and the unit
pub ready : {t name : List ℕ} {rate unit : ℕ} {d : Listing} {ear : Option ℕ} {es : List Element} {port : Wire} {E : Type 0} (o : Option Scale) (e : E) (m : Result Scale E) (s : Scale) → m ≡ Ok s → m ≡ ok_or o e
    → MatchOption o (Scaled rate unit → ⊥) (λ x. (x.rate ≡ rate) × (x.unit ≡ unit)) → reader.Reads t d → es ≡ d.elements → port ≡ port_of d → EarIs t es name ear → Ready t name rate unit d ear s es port
ready o e m s w is made read all ends eared =
    let z = was_some _ _ o e m s w is made in
    record { read = read; hertz = z.0; siemens = z.1; all = all; ends = ends; eared = eared }

moved : {t name : List ℕ} {rate unit : ℕ} {d : Listing} {ear : Option ℕ} {s : Scale} {es : List Element} {port : Wire} (P : ℕ → ℕ → List Element → Wire → Type 0) → Ready t name rate unit d ear s es port → P s.rate s.unit es port → P rate unit d.elements (port_of d)
moved {t} {name} {rate} {unit} {d} {ear} {s} {es} {port} P k x =
    subst (λ (y : Wire). P rate unit d.elements y) k.ends (subst (λ (y : List Element). P rate unit y port) k.all (subst (λ (y : ℕ). P rate y es port) k.siemens (subst (λ (y : ℕ). P y s.unit es port) k.hertz x)))

pub heard : {t name : List ℕ} {rate unit : ℕ} {d : Listing} {ear : Option ℕ} {s : Scale} {es : List Element} {port : Wire} → Ready t name rate unit d ear s es port → EarIs t d.elements name ear
heard {t} {name} {rate} {unit} {d} {ear} {s} {es} {port} k = moved (λ r u l w. EarIs t l name ear) k k.eared

begun : {t name : List ℕ} {rate unit : ℕ} {d : Listing} {ear : Option ℕ} {s : Scale} {es : List Element} {port : Wire} → Ready t name rate unit d ear s es port → (bs : List (Edge Model)) → Begins rate unit ear d.elements bs → Begun t rate unit name d bs
begun {t} {name} {rate} {unit} {d} {ear} {s} {es} {port} k bs b = record {
  read = k.read;
  scaled = moved (λ r u l w. Scaled r u) k (s.fast.0, s.fast.1, s.fine.0, s.fine.1);
  ear = ear;
  eared = heard k;
  begins = b;
}

pub grown : {t name : List ℕ} {rate unit : ℕ} {d : Listing} {ear : Option ℕ} {s : Scale} {es : List Element} {port : Wire} (m : Model) → Ready t name rate unit d ear s es port → GrownFrom s.rate s.unit ear es port m → (bs : List (Edge Model)) × Begun t rate unit name d bs × EndsDown Joins Refused (port_of d) bs m
grown {t} {name} {rate} {unit} {d} {ear} {s} {es} {port} m k g =
    let h : GrownFrom rate unit ear d.elements (port_of d) m = moved (λ r u l w. GrownFrom r u ear l w m) k g in
    (h.branches, begun k h.branches h.begins, h.down)

told : {t name : List ℕ} {rate unit : ℕ} {d : Listing} {ear : Option ℕ} {s : Scale} {es : List Element} {port : Wire} (f : AssemblyFault) → Ready t name rate unit d ear s es port → Ungrown rate unit ear d.elements (port_of d) f → Refuses t rate unit name f
told (Reading g) k u = absurd u
told OutOfRange k u = absurd u
told {t} {name} {rate} {unit} {d} {ear} {s} {es} {port} (BadWeight p) k u = (d, k.read, moved (λ r u l w. Scaled r u) k (s.fast.0, s.fast.1, s.fine.0, s.fine.1), u)
told {t} {name} {rate} {unit} {d} {ear} {s} {es} {port} (TooLarge p) k u = (d, u.0, begun k u.0 u.1, u.2)
told {t} {name} {rate} {unit} {d} {ear} {s} {es} {port} Irreducible k u = (d, u.0, begun k u.0 u.1, u.2)
told NoEar k u = absurd u

pub refused : {t name : List ℕ} {rate unit : ℕ} {d : Listing} {ear : Option ℕ} {s : Scale} {es : List Element} {port : Wire} (f : AssemblyFault) → Ready t name rate unit d ear s es port → Ungrown s.rate s.unit ear es port f → Refuses t rate unit name f
refused {t} {name} {rate} {unit} {d} {ear} {s} {es} {port} f k u = told f k (moved (λ r u l w. Ungrown r u ear l w f) k u)

-- ---- the ear
pub named : (empty : Bool) (name : List ℕ) → empty ≡ (length name == 0) → empty ≡ false → 0 < length name
named empty name h n = grind (arith, nat_tests)

pub unnamed : (empty : Bool) (name : List ℕ) → empty ≡ (length name == 0) → empty ≡ true → 0 < length name → ⊥
unnamed empty name h n lt = grind (arith, nat_tests)

pub no_ear : (t : List ℕ) (es : List Element) (name : List ℕ) (ear : Option ℕ) → EarIs t es name ear → is_some ear ≡ false → 0 < length name → Earless t es name
no_ear t es name None e n lt = elim e [ inl x ↦ absurd (let no : ⊥ = omega (arith, x, lt) in no) | inr x ↦ x ]
no_ear t es name (Some i) e n lt = absurd (let z : ◌≡◌ {A = ℕ} 0 1 = cc in let no : ⊥ = omega arith in no)

-- one name is called first once
pub has_ear : (t : List ℕ) (es : List Element) (name : List ℕ) (ear : Option ℕ) → EarIs t es name ear → is_some ear ≡ true → Earless t es name → ⊥
has_ear t es name None e n no_one = let z : ◌≡◌ {A = ℕ} 0 1 = cc in omega arith
has_ear t es name (Some i) e n no_one = elim no_one.1 [
  | inl x ↦ x i blank zero-le e.1.0 (e.1.1 blank)
  | inr x ↦ elim (leb_tells i x.0) [
    | inl a ↦ elim (leb_tells x.0 i) [
      | inl b ↦ (let same : i ≡ x.0 = omega (arith, a.1, b.1) in x.2 blank (ap (λ k. (get_or es k blank).kind) (sym same) ∙ e.2 blank))
      | inr b ↦ x.1.2 i blank zero-le b.1 (e.1.1 blank)
    ]
    | inr a ↦ e.1.2 x.0 blank zero-le a.1 (x.1.1 blank)
  ]
]

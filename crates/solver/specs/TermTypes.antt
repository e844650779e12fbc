-- The types of the terms that definitions of the sheet speak of, handed on.
pub use Rattle.terms.specs.declared.Place.{Place}
pub use Rattle.terms.specs.declared.Refusal.{Refusal}
pub use Rattle.terms.specs.declared.Refusal.TheVariants.{Length, Code, Number, Depth, Order, Variable, Nodes, Variables, Children}
pub use Rattle.terms.specs.declared.Listing.{Listing}
pub use Rattle.terms.specs.declared.Listing.TheVariants.{Arguments, Receivers, Entries}
pub use Rattle.terms.specs.declared.PartKind.{PartKind}
pub use Rattle.terms.specs.declared.PartKind.TheVariants.{Term, BareNominal}
pub use Rattle.terms.specs.Words.ReadContract.{Step, Next, Stopped}
pub use Rattle.terms.specs.declared.Question.{Question}
pub use Rattle.terms.specs.declared.Question.TheVariants.{IsNever, IsInteger, IsConcrete, IsUnresolved, ContainsUnknown, ContainsSelfType, ContainsProjection, IsResolvedIn}
pub use Rattle.terms.specs.declared.Rule.{Rule}
pub use Rattle.terms.specs.declared.Binders.{Binders}
pub use Rattle.terms.specs.declared.Parameter.{Parameter}
pub use Rattle.terms.specs.declared.Parameters.{Parameters}
pub use Rattle.terms.specs.declared.Part.{Part}
pub use Rattle.terms.specs.declared.Pass.{Pass}
pub use Rattle.terms.specs.declared.Pass.TheVariants.{Count, Write}
pub use Rattle.terms.specs.declared.Purpose.{Purpose}
pub use Rattle.terms.specs.declared.Purpose.TheVariants.{Instance, Context, Family}
pub use Rattle.terms.specs.declared.Ready.{Ready}
pub use Rattle.terms.specs.declared.Unfinished.{Unfinished}
pub use Rattle.terms.specs.declared.Unfinished.TheVariants.{TooMany, TooLong}

mod NumberLaws
pub mod ToldLaws
pub mod LookupLaws
pub mod IdLaws
pub mod ResultLaws
pub mod PartLaws
pub mod ArgumentLaws
pub mod ClauseLaws
pub mod ValueLaws
pub mod TextLaws
pub mod RoomLaws
pub mod BuildLaws
pub mod NameLaws
pub mod KindLaws
pub mod FormLaws
pub mod ChildLaws
pub mod QueryLaws
pub mod DeclareLaws

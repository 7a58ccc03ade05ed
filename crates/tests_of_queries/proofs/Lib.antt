mod MoreLacks
mod OnePattern
